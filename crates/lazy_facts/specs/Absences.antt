-- What a marked record of a list says still: where its link leads, and which keys were absent at one place of the history.
use Rattle.std.specs.Prelude.{◌≡◌, ℕ, ◌+◌, ◌-◌, ◌%◌, ◌<◌, ◌≤◌, List, length, take, max, false, Option, Some, None}
use Rattle.set_model.specs.declared.calls.Update.{Update}
use Rattle.set_model.specs.Keys.{contains}
use Rattle.set_model.specs.Histories.{keys_of}
use Rattle.row_words.specs.Refs.{RefParts}
use Rattle.record_memory.specs.declared.books.Setup.{Setup}
use Rattle.record_rule.specs.Inputs.{ShapeCell, hidden, root, linked, out, Start, Trace}
use Rattle.record_rule.specs.Facts.{At, link_at, key_at}
use Rattle.list_facts.specs.Tellings.{IsMarked, NoneWithin, rank_of}

-- the cell is a record of this generation with this body, linked or taken out
abbrev pub IsRecordWith : ShapeCell → ℕ → List ℕ → Type 0
IsRecordWith hidden generation body = ⊥
IsRecordWith (root e b m) generation body = ⊥
IsRecordWith (linked e b m) generation body = (e ≡ generation) × (b ≡ body)
IsRecordWith (out e b m n) generation body = (e ≡ generation) × (b ≡ body)

-- the record that a reference names is there at its generation, with this body
abbrev pub IsSeen : List ShapeCell → RefParts → List ℕ → Type 0
IsSeen cells t body = (cell : ShapeCell) × At cells (t.index - 1) cell × IsRecordWith cell t.generation body

-- what is seen of a link's target is that of a record that is there at its generation
abbrev pub TargetIs : List ShapeCell → Option RefParts → Option (List ℕ) → Type 0
TargetIs cells None b = b ≡ None
TargetIs cells (Some t) b = (body : List ℕ) × (b ≡ Some body) × IsSeen cells t body

-- the link of each marked record leads to one of the same list, behind it
abbrev pub MarkedLeadUp : Setup → List ShapeCell → Type 0
MarkedLeadUp setup cells = (i m : ℕ) (body b : List ℕ) (t : RefParts) → IsMarked cells i body m 0 → (link_at body 3).target ≡ Some t → IsSeen cells t b → (key_at b % setup.roots ≡ key_at body % setup.roots) × (key_at body < key_at b)

-- behind the later of a start and a marking, each by how many updates took effect then
abbrev pub absence_place : Start → ℕ → ℕ
absence_place st m = max st.updates m

-- there the key of a marked record is absent, and so is every one up to its target's
pub record AbsentAt (setup : Setup) (cells : List ShapeCell) (updates : List Update) (st : Start) (body : List ℕ) (m : ℕ) : Type 0 where
  pub within : absence_place st m ≤ length updates
  pub own : contains (keys_of (take (absence_place st m) updates)) (key_at body) ≡ false
  pub up_to : (b : Option (List ℕ)) → TargetIs cells (link_at body 3).target b → NoneWithin setup (key_at body % setup.roots) (key_at body + 1) (rank_of b) (take (absence_place st m) updates)

-- so it is of each marked record that is linked or was taken out behind a guard's start, by that start
abbrev pub AbsencesFit : Setup → List ShapeCell → Trace → Type 0
AbsencesFit setup cells h = (c i m : ℕ) (st : Start) (body : List ℕ) → At h.starts c st → IsMarked cells i body m st.taken_out → AbsentAt setup cells h.updates st body m
