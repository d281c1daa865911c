use Rattle.std.proofs.Common.{◌≡◌, length, map}
use Rattle.listed.specs.Vectors.{items_of}
use Rattle.paired_replies.proofs.tests.lists_of.Given as goal

abbrev pub invariant-loop-own : goal.invariant-loop-own
invariant-loop-own l = record {
  count : length l.lists.items ≡ l.own-index;
  pairs : map length (items_of l.replies.items) ≡ map length (items_of l.lists.items);
}
