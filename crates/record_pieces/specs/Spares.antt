-- Which records a caller has spare.
use Rattle.std.specs.Prelude.{◌≡◌, ◌≢◌, ℕ, ◌-◌, Some, None, slice_index_or}
use Rattle.record_memory.specs.declared.books.Book.{Book}
use Rattle.record_memory.specs.declared.books.Share.{Share}
use Rattle.record_memory.specs.declared.books.Standing.TheVariants.{Spare}
use Rattle.row_words.specs.Refs.{RefParts}

-- the record is spare, at its generation
pub record IsSpareIn (b : Book) (r : RefParts) : Type 0 where
  pub share : Share
  pub known : slice_index_or b.mine (r.index - 1) None ≡ Some share
  pub spare : share.standing ≡ Spare
  pub generation : share.generation ≡ r.generation

-- each record that was spare still is
abbrev pub KeepsSpares : Book → Book → Type 0
KeepsSpares b c = (r : RefParts) → IsSpareIn b r → IsSpareIn c r

-- but for the one with this index
abbrev pub KeepsSparesBut : ℕ → Book → Book → Type 0
KeepsSparesBut i b c = (r : RefParts) → r.index - 1 ≢ i - 1 → IsSpareIn b r → IsSpareIn c r
