use Rattle.std.proofs.Common.{◌≡◌, ◌≤◌, All}
use Rattle.row_words.specs.Refs.{RefParts}
use Rattle.limbo_bags.specs.Chains.{refs_of, IsChain}
use Rattle.limbo_bags.proofs.tests.chain_of.Given as goal

abbrev pub invariant-loop-index : goal.invariant-loop-index
invariant-loop-index g l = record {
  list : IsChain (g.W.ChainWords.owns l.words) (g.W.ChainWords.row_of l.words) l.chain;
  below : All (λ q. q.index ≤ l.index) (refs_of (g.W.ChainWords.row_of l.words) l.chain);
  count : l.chain.count ≡ l.index;
  owned : (q : RefParts) → g.W.ChainWords.owns l.fn.words q → g.W.ChainWords.owns l.words q;
}
