-- How a reclaimer by announcements reads a guard and changes it.
use Rattle.std.specs.Prelude.{ℕ, ◌≤◌, List, map, true, false, Some, None, slice_index_or, slice_set}
use Rattle.record_memory.specs.declared.steps.Word.{Word}
use Rattle.record_memory.specs.declared.steps.Word.TheVariants.{Epoch}
use Rattle.record_memory.specs.declared.books.Setup.{Setup}
use Rattle.record_memory.specs.declared.books.Guard.{Guard}
use Rattle.row_words.specs.Refs.{RefParts}
use Rattle.record_rule.specs.Inputs.{SchemeInput}
use Rattle.record_rule.specs.Facts.{At, Moment}
use Rattle.record_rule.specs.Guards.{blank_guard, nothing_at, started_at}

-- the last epoch that a word may hold
abbrev pub LAST_EPOCH : ℕ
LAST_EPOCH = 17592186044415

-- what one of its own four announcement words holds
abbrev pub word_of : Guard → ℕ → ℕ
word_of g k = slice_index_or g.announced k 0

-- an epoch that its caller read, the last one at 0
abbrev pub reading : Guard → ℕ → ℕ
reading g k = slice_index_or g.readings k 0

-- a load of the epoch finds no less than the last reading, and no more than the last epoch
abbrev pub shows_epoch : Setup → Guard → Word → ℕ → Type 0
shows_epoch setup g Epoch n = (reading g 0 ≤ n) × (n ≤ LAST_EPOCH)
shows_epoch setup g word n = Unit {0}

abbrev pub HoldsNothing : Guard → Type 0
HoldsNothing g = (p : ℕ) (t : RefParts) → ¬ At g.holds p (Some t)

-- this holds of each caller's guard
abbrev pub GuardsFit : (Setup → SchemeInput → ℕ → Guard → Type 0) → Setup → SchemeInput → Type 0
GuardsFit F setup x = (d : ℕ) (g : Guard) → At x.guards d g → F setup x d g

-- the guard of a caller that made no step, with so many places and these readings
abbrev pub first_guard : ℕ → List ℕ → Guard
first_guard places readings = record (blank_guard places) { readings = readings }

abbrev pub announcing : Guard → ℕ → ℕ → Guard
announcing g k v = record g { announced = slice_set g.announced k v }

-- it starts by announcing this, at the epoch of that moment
abbrev pub entered : Moment → Guard → ℕ → ℕ → ℕ → Guard
entered m g step k v = record (announcing (started_at m g step) k v) { active = true; epoch = m.epoch }

-- it ends by announcing this, and holds nothing
abbrev pub left : Guard → ℕ → ℕ → Guard
left g k v = record (announcing g k v) { active = false; holds = map nothing_at g.holds; pending = None }
