-- Stores and exchanges of control words: which a pass may make, and what it knows afterwards.
use Rattle.std.specs.Prelude.{◌≡◌, ℕ, ◌+◌, ◌-◌, ◌*◌, ◌<◌, ◌≤◌, List, length, Bool, true, false, None}
use Rattle.set_model.specs.declared.calls.Update.{Update}
use Rattle.record_memory.specs.declared.steps.Word.{Word}
use Rattle.record_memory.specs.declared.steps.Word.TheVariants.{Drawn, Epoch, Lock, Blank, Shelf, Announced, Cursor, Field}
use Rattle.record_memory.specs.declared.steps.StepKind.TheVariants.{Store}
use Rattle.record_memory.specs.declared.steps.Step.{Step}
use Rattle.record_memory.specs.declared.books.View.{View}
use Rattle.record_memory.specs.declared.books.Book.{Book}
use Rattle.row_words.specs.Refs.{RefParts}
use Rattle.record_rule.specs.Facts.{Moment, CoverFacts}
use Rattle.record_rule.specs.Kinds.{idle}
use Rattle.record_rule.specs.Links.{with_step, seeing, AreWhole, roots_kept}

-- a pass has seen the two whole lists where its step starts a guard
abbrev pub seeing_if : Bool → View → List Update → List RefParts → Book → View
seeing_if true v updates taken_out own = seeing v updates taken_out own
seeing_if false v updates taken_out own = record v { own = own }

-- a store in the caller's own announcement word of this number, from 0 to 3
abbrev pub own_store : View → ℕ → ℕ → ℕ → Step
own_store v k found value = record { kind = Store; word = Announced (4 * v.own.caller + k); held = None; found = found; left = value; idle = idle v.own }

-- What it tells
pub record StoredWord (c : CoverFacts) (v : View) (k value found : ℕ) (w : View) : Type 0 where
  pub updates : List Update
  pub taken_out : List RefParts
  pub whole : AreWhole v updates taken_out
  pub moment : Moment
  pub taken_out_is : moment.taken_out ≡ length taken_out
  pub updates_is : moment.updates ≡ length updates
  pub view : w ≡ seeing_if (c.begins v.own.guard k value) v updates taken_out (record (with_step v.own v.setup.records (own_store v k found value)) {
    guard = c.stored moment v.own.guard (length v.own.steps + 1) k value;
    root_notes = roots_kept (c.begins v.own.guard k value) v.own.root_notes;
  })

-- A pass may store this value in a control word: in an own announcement word, where its reclaimer allows it
abbrev pub MayStoreControl : CoverFacts → View → Word → ℕ → Type 0
MayStoreControl c v Drawn n = ⊥
MayStoreControl c v Epoch n = ⊥
MayStoreControl c v Lock n = ⊥
MayStoreControl c v Blank n = ⊥
MayStoreControl c v (Shelf k) n = ⊥
MayStoreControl c v (Announced j) n = (4 * v.own.caller ≤ j) × (j < 4 * v.own.caller + 4) × c.may_store v.setup v.own.guard (j - 4 * v.own.caller) n
MayStoreControl c v (Cursor d) n = ⊥
MayStoreControl c v (Field i f) n = ⊥

-- what the store tells then
abbrev pub StoredControl : CoverFacts → View → Word → ℕ → ℕ → View → Type 0
StoredControl c v Drawn n found w = ⊥
StoredControl c v Epoch n found w = ⊥
StoredControl c v Lock n found w = ⊥
StoredControl c v Blank n found w = ⊥
StoredControl c v (Shelf k) n found w = ⊥
StoredControl c v (Announced j) n found w = StoredWord c v (j - 4 * v.own.caller) n found w
StoredControl c v (Cursor d) n found w = ⊥
StoredControl c v (Field i f) n found w = ⊥

-- A pass may exchange a control word: the epoch, where its reclaimer allows it
abbrev pub MayExchangeControl : CoverFacts → View → Word → ℕ → ℕ → Type 0
MayExchangeControl c v Drawn old new = ⊥
MayExchangeControl c v Epoch old new = c.may_exchange v.setup v.own.guard old new
MayExchangeControl c v Lock old new = ⊥
MayExchangeControl c v Blank old new = ⊥
MayExchangeControl c v (Shelf k) old new = ⊥
MayExchangeControl c v (Announced j) old new = ⊥
MayExchangeControl c v (Cursor d) old new = ⊥
MayExchangeControl c v (Field i f) old new = ⊥
