use Rattle.std.proofs.Common.{◌≡◌, ◌≤◌, length, vec_capacity}
use Rattle.std.specs.Iterator.Adapters.{zip_first, zip_second}
use Rattle.std.specs.Vec.Iter.{into_iter_items, into_iter_len}
use Rattle.listed.specs.Vectors.{items_of}
use Rattle.paired_replies.proofs.Pairing.{PairsTo}
use Rattle.paired_replies.proofs.pair_up.Given as goal

abbrev pub invariant-loop-calls : goal.invariant-loop-calls
invariant-loop-calls l =
    let lists = zip_first l.calls-iterator in
    let replies = zip_second l.calls-iterator in
    record {
      can_next : (goal.iterator-loop-calls).can_next l.calls-iterator;
      is_finite : (goal.iterator-loop-calls).is_finite l.calls-iterator;
      pairs : PairsTo (items_of l.fn.lists.items) (items_of l.fn.replies.items) l.callers.items (items_of (into_iter_items lists)) (items_of (into_iter_items replies));
      lists_left : into_iter_len lists ≡ length (into_iter_items lists);
      replies_left : into_iter_len replies ≡ length (into_iter_items replies);
      room : length l.fn.lists.items ≤ vec_capacity l.callers;
    }
