-- What the facts of the rule may depend on. All else is masked out, so that a step which changes nothing of it keeps them.
use Rattle.std.specs.Prelude.{ℕ, ◌+◌, List, map, drop, Option, slice_index_or}
use Rattle.set_model.specs.declared.calls.Update.{Update}
use Rattle.record_memory.specs.declared.books.Answered.{Answered}
use Rattle.record_memory.specs.declared.books.Book.{Book}
use Rattle.record_memory.specs.declared.books.Guard.{Guard}
use Rattle.record_memory.specs.declared.books.Note.{Note}
use Rattle.record_memory.specs.declared.books.Offer.{Offer}
use Rattle.record_memory.specs.declared.books.Standing.{Standing}
use Rattle.record_memory.specs.declared.books.Standing.TheVariants.{Handing, Own, Spare, TakenOut, Limbo, Free, Spent}
use Rattle.record_memory.specs.declared.books.Place.{Place}
use Rattle.record_memory.specs.declared.books.Place.TheVariants.{Undrawn, Root, Linked, Shelved, Of}
use Rattle.record_memory.specs.declared.books.LockedWord.{LockedWord}
use Rattle.record_memory.specs.Memory.{Memory}
use Rattle.row_words.specs.Refs.{RefParts}
use Rattle.row_words.specs.Packing.{number_in}
use Rattle.record_rule.specs.Records.{Record}

-- a record as the set's facts see it: one that can't be reached is hidden
pub data ShapeCell : Type 0 where
  hidden : ShapeCell
  root : ℕ → List ℕ → ℕ → ShapeCell
  linked : ℕ → List ℕ → ℕ → ShapeCell
  -- taken out, or in limbo: with how many were taken out before it
  out : ℕ → List ℕ → ℕ → ℕ → ShapeCell

abbrev pub shape_had : Standing → Record → ShapeCell
shape_had (Handing n) r = hidden
shape_had Own r = hidden
shape_had Spare r = hidden
shape_had TakenOut r = out r.generation (drop 3 r.row) r.marked r.taken_number
shape_had Limbo r = out r.generation (drop 3 r.row) r.marked r.taken_number
shape_had Free r = hidden
shape_had Spent r = hidden

abbrev pub shape_at : Place → Record → ShapeCell
shape_at Undrawn r = hidden
shape_at Root r = root r.generation (drop 3 r.row) r.marked
shape_at Linked r = linked r.generation (drop 3 r.row) r.marked
shape_at (Shelved k) r = hidden
shape_at (Of c s) r = shape_had s r

abbrev pub shape_cell : Record → ShapeCell
shape_cell r = shape_at r.place r

-- a record as the reclaimer's facts see it
pub data SchemeCell : Type 0 where
  unseen : SchemeCell
  rooted : SchemeCell
  -- its generation and its birth
  reachable : ℕ → ℕ → SchemeCell
  -- own or spare of a caller
  unpublished : ℕ → ℕ → ℕ → SchemeCell
  -- taken out by a caller, so many before it
  unretired : ℕ → ℕ → ℕ → ℕ → SchemeCell
  -- in limbo, with its stamp and the epoch at its retirement
  limbo : ℕ → ℕ → ℕ → ℕ → ℕ → ℕ → SchemeCell

abbrev pub birth : Record → ℕ
birth r = number_in (slice_index_or r.row 0 0)

abbrev pub stamp : Record → ℕ
stamp r = number_in (slice_index_or r.row 2 0)

abbrev pub scheme_had : ℕ → Standing → Record → SchemeCell
scheme_had c (Handing n) r = unseen
scheme_had c Own r = unpublished c r.generation (birth r)
scheme_had c Spare r = unpublished c r.generation (birth r)
scheme_had c TakenOut r = unretired c r.generation (birth r) r.taken_number
scheme_had c Limbo r = limbo c r.generation (birth r) r.taken_number (stamp r) r.retired
scheme_had c Free r = unseen
scheme_had c Spent r = unseen

abbrev pub scheme_at : Place → Record → SchemeCell
scheme_at Undrawn r = unseen
scheme_at Root r = rooted
scheme_at Linked r = reachable r.generation (birth r)
scheme_at (Shelved k) r = unseen
scheme_at (Of c s) r = scheme_had c s r

abbrev pub scheme_cell : Record → SchemeCell
scheme_cell r = scheme_at r.place r

-- a record as the list of those taken out sees it
pub data TakenCell : Type 0 where
  -- at this generation it wasn't taken out
  untaken : ℕ → TakenCell
  -- at this generation it was, so many before it
  was_taken : ℕ → ℕ → TakenCell

abbrev pub taken_had : Standing → Record → TakenCell
taken_had (Handing n) r = untaken r.generation
taken_had Own r = untaken r.generation
taken_had Spare r = untaken r.generation
taken_had TakenOut r = was_taken r.generation r.taken_number
taken_had Limbo r = was_taken r.generation r.taken_number
taken_had Free r = was_taken r.generation r.taken_number
taken_had Spent r = was_taken r.generation r.taken_number

-- of a record that was never handed out, the first generation
abbrev pub taken_at : Place → Record → TakenCell
taken_at Undrawn r = untaken (r.generation + 1)
taken_at Root r = untaken r.generation
taken_at Linked r = untaken r.generation
taken_at (Shelved k) r = was_taken r.generation r.taken_number
taken_at (Of c s) r = taken_had s r

abbrev pub taken_cell : Record → TakenCell
taken_cell r = taken_at r.place r

-- All that the facts read
pub record Outline : Type 0 where
  -- the records, as each part sees them
  pub shapes : List ShapeCell
  pub schemes : List SchemeCell
  pub takings : List TakenCell
  pub epoch : ℕ
  pub announced : List ℕ
  -- the records that were taken out, and the updates that took effect, each in order
  pub taken_out : List RefParts
  pub updates : List Update
  -- of each caller: its guard, what it knows of what it holds, the link words that it has locked, and its answered calls
  pub guards : List Guard
  pub notes : List (List Note)
  pub roots : List (List (List ℕ))
  pub locks : List (List LockedWord)
  pub answered : List (List Answered)
  -- and the call that it lets others decide
  pub offers : List (Option Offer)

abbrev pub guard_of : Book → Guard
guard_of b = b.guard

abbrev pub notes_of : Book → List Note
notes_of b = b.notes

abbrev pub locks_of : Book → List LockedWord
locks_of b = b.locks

abbrev pub answered_of : Book → List Answered
answered_of b = b.answered

abbrev pub roots_of : Book → List (List ℕ)
roots_of b = b.root_notes

abbrev pub offer_of : Book → Option Offer
offer_of b = b.offer

abbrev pub outline : Memory → List Record → List Book → List RefParts → List Update → Outline
outline m records books taken_out updates = record {
  shapes = map shape_cell records;
  schemes = map scheme_cell records;
  takings = map taken_cell records;
  epoch = m.epoch;
  announced = m.announced;
  taken_out = taken_out;
  updates = updates;
  guards = map guard_of books;
  notes = map notes_of books;
  roots = map roots_of books;
  locks = map locks_of books;
  answered = map answered_of books;
  offers = map offer_of books;
}

-- what a set's facts about the records read
pub record ShapeInput : Type 0 where
  pub cells : List ShapeCell
  pub taken_out : List RefParts

abbrev pub shape_input : Outline → ShapeInput
shape_input o = record { cells = o.shapes; taken_out = o.taken_out }

-- how many records were taken out and how many updates took effect when a guard started
pub record Start : Type 0 where
  pub taken_out : ℕ
  pub updates : ℕ

abbrev pub start_of : Guard → Start
start_of g = record { taken_out = g.start_taken_out; updates = g.start_updates }

-- what a set's facts about its history read beside that
pub record Trace : Type 0 where
  pub updates : List Update
  pub starts : List Start
  -- by caller, the call that it lets others decide
  pub offers : List (Option Offer)

abbrev pub trace : Outline → Trace
trace o = record { updates = o.updates; starts = map start_of o.guards; offers = o.offers }

-- what a reclaimer's facts read
pub record SchemeInput : Type 0 where
  pub epoch : ℕ
  pub cells : List SchemeCell
  pub taken_out : List RefParts
  pub guards : List Guard

abbrev pub scheme_input : Outline → SchemeInput
scheme_input o = record { epoch = o.epoch; cells = o.schemes; taken_out = o.taken_out; guards = o.guards }
