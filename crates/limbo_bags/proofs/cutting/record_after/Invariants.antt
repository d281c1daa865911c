use Rattle.std.proofs.Common.{◌≡◌, slice_index_or}
use Rattle.row_words.specs.Refs.{RefParts}
use Rattle.limbo_bags.specs.Chains.{refs_of}
use Rattle.limbo_bags.proofs.cutting.record_after.Given as goal

-- the record stands as many places after the first one as steps were made
abbrev pub invariant-loop-step : goal.invariant-loop-step
invariant-loop-step g l = record {
  place : slice_index_or (refs_of (g.W.ChainWords.row_of l.fn.words) l.chain) l._step l.r ≡ l.r;
  rows : (q : RefParts) → g.W.ChainWords.row_of l.words q ≡ g.W.ChainWords.row_of l.fn.words q;
  owned : (q : RefParts) → g.W.ChainWords.owns l.fn.words q → g.W.ChainWords.owns l.words q;
  same : g.W.ChainWords.same l.fn.words l.words;
}
