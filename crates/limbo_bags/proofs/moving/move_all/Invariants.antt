use Rattle.std.proofs.Common.{◌≡◌, ◌+◌, ◌++◌, length, reverse, filter, count_by}
use Rattle.limbo_bags.specs.Chains.{refs_of, IsChain}
use Rattle.limbo_bags.specs.Wholes.{is_last, is_reusable}
use Rattle.limbo_bags.proofs.Moves.{Empties, Sends}
use Rattle.limbo_bags.proofs.moving.move_all.Given as goal

abbrev pub invariant-loop-r : goal.invariant-loop-r
invariant-loop-r g l =
    let rows = g.W.ChainWords.row_of l.words in
    let old = g.W.ChainWords.row_of l.fn.words in
    let refs = refs_of old l.fn.from in
    record {
      from : Empties (g.W.ChainWords.owns l.fn.words) (g.W.ChainWords.owns l.words) old rows refs l.from;
      to : IsChain (g.W.ChainWords.owns l.words) rows l.to;
      sends : Sends is_reusable (reverse (filter is_reusable refs) ++ refs_of old l.fn.to) (refs_of rows l.from) (refs_of rows l.to);
      freed : l.freed.freed + length (refs_of rows l.from) ≡ length refs;
      spent : l.freed.spent + count_by is_last (refs_of rows l.from) ≡ count_by is_last refs;
      same : g.W.ChainWords.same l.fn.words l.words;
    }

abbrev pub decreases-loop-r : goal.decreases-loop-r
decreases-loop-r g l = l.from.count
