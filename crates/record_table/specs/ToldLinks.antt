-- What steps tell that need no word of the rule's own.
use Rattle.std.specs.Prelude.{◌≡◌, ℕ}
use Rattle.record_memory.specs.declared.books.View.{View}
use Rattle.record_memory.specs.declared.books.Share.{Share}
use Rattle.row_words.specs.Refs.{RefParts}
use Rattle.record_rule.specs.Kinds.{IsOver}
use Rattle.record_rule.specs.Links.{HasTaken, retired_with}

-- a record that the caller took out is retired with this stamp word
pub record ToldRetire (r : RefParts) (value : ℕ) (v : View) (found : ℕ) (w : View) : Type 0 where
  pub share : Share
  pub taken : HasTaken v r share
  pub over : IsOver v r.index 2 found
  pub view : w ≡ retired_with v r share value
