use Rattle.std.proofs.Common.{◌≡◌, ◌+◌, ◌++◌, reverse, filter, count_by}
use Rattle.limbo_bags.specs.Chains.{refs_of, IsChain}
use Rattle.limbo_bags.specs.Wholes.{AreApart, passes, is_freed, is_returned, is_spent}
use Rattle.limbo_bags.proofs.Moves.{Empties, Sends}
use Rattle.limbo_bags.proofs.sifting.sift.Given as goal

abbrev pub invariant-loop-r : goal.invariant-loop-r
invariant-loop-r g l =
    let test = g.T.Keeps.kept l.test in
    let rows = g.W.ChainWords.row_of l.words in
    let old = g.W.ChainWords.row_of l.fn.words in
    let refs = refs_of old l.fn.bag in
    record {
      bag : Empties (g.W.ChainWords.owns l.fn.words) (g.W.ChainWords.owns l.words) old rows refs l.bag;
      kept_list : IsChain (g.W.ChainWords.owns l.words) rows l.kept;
      free_list : IsChain (g.W.ChainWords.owns l.words) rows l.free;
      keeps : Sends (passes test old) (reverse (filter (passes test old) refs)) (refs_of rows l.bag) (refs_of rows l.kept);
      frees : Sends (is_returned test old) (reverse (filter (is_returned test old) refs) ++ refs_of old l.fn.free) (refs_of rows l.bag) (refs_of rows l.free);
      apart : AreApart (refs_of rows l.kept) (refs_of rows l.free);
      freed : l.freed.freed + count_by (is_freed test old) (refs_of rows l.bag) ≡ count_by (is_freed test old) refs;
      spent : l.freed.spent + count_by (is_spent test old) (refs_of rows l.bag) ≡ count_by (is_spent test old) refs;
      same : g.W.ChainWords.same l.fn.words l.words;
    }

abbrev pub decreases-loop-r : goal.decreases-loop-r
decreases-loop-r g l = l.bag.count
