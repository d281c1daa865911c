use Rattle.std.proofs.Common.{refl}
use Rattle.limbo_bags.proofs.Chains.{chain_popped}
use Rattle.limbo_bags.proofs.ends.pop.Goals as goal

pub returns-clause-list : goal.returns-clause-list
returns-clause-list g c =
    (chain_popped _ _ _ _ c.args.chain.now _ _ c.requires.list c.in_ok-first.was c.load_chain-chain.ensures.owned c.load_chain-chain.ensures.rows c.load_chain-chain.ensures.next refl).list

pub returns-clause-apart : goal.returns-clause-apart
returns-clause-apart g c =
    (chain_popped (g.W.ChainWords.owns c.args.words.now) _ _ _ c.args.chain.now (record { head = c.load_chain-chain.result; count = _ }) _ c.requires.list c.in_ok-first.was c.load_chain-chain.ensures.owned c.load_chain-chain.ensures.rows c.load_chain-chain.ensures.next refl).apart
