-- What a table leaves that was closed, said of its words, its numbers and names, the books of its callers and its one history.
use Rattle.std.specs.Prelude.{◌≡◌, ℕ, ◌+◌, List, [], ◌++◌, map, length, None}
use Rattle.set_model.specs.declared.calls.Update.{Update}
use Rattle.record_memory.specs.declared.steps.Step.{Step}
use Rattle.record_memory.specs.declared.books.Setup.{Setup}
use Rattle.record_memory.specs.declared.books.Book.{Book}
use Rattle.record_memory.specs.Memory.{memory, size}
use Rattle.row_words.specs.Refs.{RefParts}
use Rattle.record_rule.specs.Records.{IsSetup, Record}
use Rattle.record_rule.specs.Inputs.{shape_cell, taken_cell, locks_of, answered_of, offer_of, Outline, outline, shape_input, scheme_input, trace}
use Rattle.record_rule.specs.Facts.{At, ShapeFacts, CoverFacts}
use Rattle.record_rule.specs.Walks.{read_for, rows_ground}
use Rattle.record_rule.specs.Taken.{TakenFits}
use Rattle.record_rule.specs.Locks.{LocksFit}
use Rattle.record_rule.specs.Recorded.{StepFits, FoundWithin}
use Rattle.record_rule.specs.Histories.{HistoryFits, IsWaiting}
use Rattle.record_rule.specs.World.{Places}
use Rattle.record_rule.specs.PlaceCounts.{CountsAddUp}
use Rattle.record_rule.specs.Counts.{CountsFit}
use Rattle.record_rule.specs.Retirements.{RetirementsFit, AreRetiredBetween}

-- what the facts of its set and of its reclaimer read
abbrev pub outline_left : Setup → List ℕ → List Book → List Record → List RefParts → List Update → Outline
outline_left setup words books records taken_out updates = outline (memory setup.callers setup.records words) records books taken_out updates

-- no caller has a call open that others may decide
abbrev pub AreAllAnswered : List Book → Type 0
AreAllAnswered books = (d : ℕ) (b : Book) → At books d b → b.offer ≡ None

-- The history is the callers' own; behind it stands only what helpers decided of calls that are still open
pub record IsWhole (s : ShapeFacts) (setup : Setup) (books : List Book) (history waiting : List Update) : Type 0 where
  -- it is legal, and each answered call stands in it once, in its caller's order, and nothing else does
  pub fits : HistoryFits s setup.set (history ++ waiting) (map answered_of books) (map offer_of books)
  pub waits : (i : ℕ) (u : Update) → At waiting i u → IsWaiting s setup.set (map offer_of books) (length history + i) u
  -- nothing does where no call is open, nor in a set without helping
  pub answered : AreAllAnswered books → waiting ≡ []
  pub unhelped : ¬ s.helped → waiting ≡ []

-- Each step that was recorded as one on a held record found that record's generation, a record was handed out again only after it was taken out once and retired once,
-- and what the records show is one legal history of the set, each answered call once, in its caller's order
pub record ClosedFits (s : ShapeFacts) (c : CoverFacts) (setup : Setup) (words : List ℕ) (books : List Book) (history : List Update) : Type 0 where
  -- the numbers and the names that the table was made with
  pub numbers : IsSetup setup
  pub set_is : setup.set ≡ s.name
  pub reclaimer_is : setup.reclaimer ≡ c.name
  pub wide : length words ≡ size setup.callers setup.records
  -- each recorded step found and left what it may by its word and its kind, and one on a held record its generation; that its caller held it then, the call says that made it
  pub found : (d : ℕ) (b : Book) → At books d b → (n : ℕ) (t : Step) → At b.steps n t → StepFits setup d t
  -- each step on the word that counts the records drawn found no more there than it has now
  pub seen : (d : ℕ) (b : Book) → At books d b → (n : ℕ) (t : Step) → At b.steps n t → FoundWithin (memory setup.callers setup.records words).drawn t
  -- each record is in one place, with the row and the generation that the words show, and with the callers that have it
  pub records : List Record
  pub placed : Places setup records books (memory setup.callers setup.records words)
  -- it was taken out once between two handings out
  pub taken_out : List RefParts
  pub taken : TakenFits setup (map taken_cell records) taken_out
  -- how many records are in each place, and how often they were taken out
  pub counted : CountsAddUp setup (memory setup.callers setup.records words).rows records taken_out
  -- and how many moves of records all callers made
  pub moved : CountsFit setup.first records books
  -- Each generation of a record that is over, and the last one where the record was retired, has exactly one retirement among the recorded steps of all callers, and no other generation has any.
  pub retirements : RetirementsFit setup.first records books
  -- so for each step that handed a record out again there is just one that retired it, at the generation before
  pub retired_between : AreRetiredBetween setup.first books
  -- the history is legal, and each answered call stands in it once; what waits behind it no caller has taken up
  pub waiting : List Update
  pub whole : IsWhole s setup books history waiting
  -- what a walk over the words reads is what the set's machine leaves behind the history
  pub read : read_for setup.set (rows_ground s setup.roots (memory setup.callers setup.records words).rows) (history ++ waiting)
  -- a link is locked just where one caller has it so; that none does is the callers' to see to
  pub locked : LocksFit s (map shape_cell records) (map locks_of books)
  -- the facts of the set and of the reclaimer
  pub formed : s.formed setup (shape_input (outline_left setup words books records taken_out (history ++ waiting)))
  pub told : s.told setup (shape_input (outline_left setup words books records taken_out (history ++ waiting))) (trace (outline_left setup words books records taken_out (history ++ waiting)))
  pub covered : c.covered setup (scheme_input (outline_left setup words books records taken_out (history ++ waiting)))
