-- What an exchange of a shelf tells, of the value that it puts there.
use Rattle.std.specs.Prelude.{◌≡◌, ℕ, List, Some}
use Rattle.record_memory.specs.declared.books.View.{View}
use Rattle.row_words.specs.Refs.{RefParts, IsRef}
use Rattle.row_words.specs.Packing.{packed_ref}
use Rattle.record_rule.specs.Shelving.{HasFreeChain, ToldGive}

-- it is the reference of the first record of a chain that the caller had
pub record ToldPut (v : View) (k value n : ℕ) (w : View) : Type 0 where
  pub head : RefParts
  pub is_ref : IsRef head
  pub packed : value ≡ packed_ref (Some head)
  pub refs : List RefParts
  pub chain : HasFreeChain v head refs
  pub told : ToldGive v k head refs n w
