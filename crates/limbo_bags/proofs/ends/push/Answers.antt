use Rattle.std.proofs.Common.{subst, refl, arith}
use Rattle.row_words.specs.Refs.{IsRef}
use Rattle.limbo_bags.proofs.Counts.{length-le_from_refs}
use Rattle.limbo_bags.proofs.Chains.{chain_pushed, chain_kept, rows_apart}
use Rattle.limbo_bags.proofs.ends.push.Goals as goal

pub overflow_add-chain : goal.overflow_add-chain
overflow_add-chain g c =
    let list = c.requires.list in
    omega (arith, list.count, length-le_from_refs _ list.distinct list.in_range)

pub returns-clause-refs : goal.returns-clause-refs
returns-clause-refs g c =
    let in_range = subst IsRef c.r.view_is c.r.invariant in
    (chain_pushed _ _ _ _ c.args.chain.now _ c.args.r c.requires.list c.requires.owned in_range c.requires.apart c.store_chain.ensures.owned c.store_chain.ensures.others c.store_chain.ensures.stored refl refl).0

pub returns-clause-list : goal.returns-clause-list
returns-clause-list g c =
    let in_range = subst IsRef c.r.view_is c.r.invariant in
    (chain_pushed _ _ _ _ c.args.chain.now _ c.args.r c.requires.list c.requires.owned in_range c.requires.apart c.store_chain.ensures.owned c.store_chain.ensures.others c.store_chain.ensures.stored refl refl).1

pub returns-clause-chains : goal.returns-clause-chains
returns-clause-chains g c other list apart =
    chain_kept _ _ _ _ other c.store_chain.ensures.owned (rows_apart _ _ c.args.r _ c.store_chain.ensures.others apart) list
