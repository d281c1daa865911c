-- What a caller holds after the first load of its guard.
use Rattle.std.specs.Prelude.{◌≡◌, ℕ, ◌<◌, length, Option, Some, None}
use Rattle.record_memory.specs.declared.books.View.{View}
use Rattle.row_words.specs.Refs.{RefParts, LinkParts}
use Rattle.row_words.specs.Packing.{key_in, packed_link}
use Rattle.record_rule.specs.Facts.{At}
use Rattle.record_rule.specs.Links.{note_in}
use Rattle.list_facts.specs.Steps.{marked_with}
use Rattle.record_table.specs.declared.passes.Pass.{Pass}
use Rattle.record_table.specs.Handles.{view}
use Rattle.record_table.specs.Nodes.{HoldsThere}

-- the pass has a note of five words at its first place
pub record HasNote (v : View) : Type 0 where
  pub some : 0 < length v.own.notes
  pub five : length (note_in v.own.notes 0).words ≡ 5

-- the pass holds the record at its first place, and has a note of it
pub record HoldsFirst {S R : Type 0} (p : Pass S R) (r : RefParts) : Type 0 where
  pub holds : HoldsThere p (record { place = 0; target = r })
  pub noted : HasNote (view p)

-- and knows the record's key
pub record HasKey (v : View) (key : ℕ) : Type 0 where
  pub word : ℕ
  pub known : At (note_in v.own.notes 0).words 1 (Some word)
  pub key_is : key ≡ key_in word

-- its link is known: it has the mark, and leads where this one does
abbrev pub HasMark : View → LinkParts → Type 0
HasMark v link = (generation : ℕ) × At (note_in v.own.notes 0).words 0 (Some (packed_link generation (marked_with link)))

abbrev pub HoldsFound : {S R : Type 0} → Pass S R → Option RefParts → Type 0
HoldsFound p None = Unit {0}
HoldsFound p (Some r) = HoldsFirst p r

-- the pass holds the record at its first place, and knows that its link has the mark
abbrev pub HoldsMarked : {S R : Type 0} → Pass S R → RefParts → LinkParts → Type 0
HoldsMarked p r link = HoldsThere p (record { place = 0; target = r }) × HasMark (view p) link
