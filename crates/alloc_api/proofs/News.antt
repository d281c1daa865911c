-- A record that a caller didn't have, and has as one that was just drawn, is new.
use Rattle.std.proofs.Common.{◌≡◌, ◌≤◌, sym, refl, Some, None}
use Rattle.record_memory.specs.declared.books.View.{View}
use Rattle.row_words.specs.Refs.{RefParts}
use Rattle.record_rule.specs.Kinds.{share_in, drawn_share}
use Rattle.alloc_api.specs.Drawn.{IsNew}

pub is_new : (before after : View) (r : RefParts) → r.index ≤ after.setup.records → r.generation ≡ before.setup.first → share_in before r.index ≡ None → share_in after r.index ≡ Some (drawn_share before.setup.first) → IsNew before after r
is_new before after r within first none there = record {
  drawn = record { within = within; share = drawn_share before.setup.first; known = there; fresh = refl; generation = sym first; eight = refl };
  first = first;
  new = none;
  untouched = there;
}
