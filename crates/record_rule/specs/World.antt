-- The rule of the one table: what holds of the words and of what the callers know between any two atomic steps.
use Rattle.std.specs.Prelude.{◌≡◌, ℕ, ◌+◌, ◌-◌, ◌*◌, ◌/◌, ◌%◌, ◌≤◌, List, [], ◌∷◌, ◌++◌, map, length, replicate, slice_index_or, sum_by, Bool, true, false, Some}
use mathlib.Core.Option.{some}
use lib.ListN.{get_elem?}
use Rattle.atomic_table.specs.Table.{State}
use Rattle.set_model.specs.declared.calls.Update.{Update}
use Rattle.set_model.specs.declared.names.AllocatorName.{AllocatorName}
use Rattle.set_model.specs.declared.names.AllocatorName.TheVariants.{Bump, Once}
use Rattle.record_memory.specs.declared.steps.Step.{Step}
use Rattle.record_memory.specs.declared.books.Setup.{Setup}
use Rattle.record_memory.specs.declared.books.View.{View}
use Rattle.record_memory.specs.declared.books.Book.{Book}
use Rattle.record_memory.specs.declared.books.Drawing.{Drawing}
use Rattle.record_memory.specs.declared.books.Drawing.TheVariants.{Unsure, Below, Past}
use Rattle.record_memory.specs.declared.books.Place.TheVariants.{Undrawn}
use Rattle.record_memory.specs.Memory.{Memory, memory, size, stretch}
use Rattle.row_words.specs.Refs.{RefParts}
use Rattle.record_rule.specs.Records.{Record, IsSound, share}
use Rattle.record_memory.specs.declared.books.Guard.{Guard}
use Rattle.record_memory.specs.declared.books.Note.{Note}
use Rattle.record_memory.specs.declared.books.Answered.{Answered}
use Rattle.record_rule.specs.Inputs.{Outline, outline, shape_input, scheme_input, trace}
use Rattle.record_rule.specs.Facts.{At, ShapeFacts, CoverFacts}
use Rattle.record_rule.specs.Shelves.{pool_cell, ShelvesFit}
use Rattle.record_rule.specs.Taken.{TakenFits}
use Rattle.record_rule.specs.Held.{HeldFits}
use Rattle.record_rule.specs.Known.{KnownFits}
use Rattle.record_rule.specs.Locks.{LocksFit}
use Rattle.record_rule.specs.Recorded.{StepFits, FoundWithin}
use Rattle.record_rule.specs.Histories.{HistoryFits, after}
use Rattle.record_rule.specs.Counts.{CountsFit}
use Rattle.record_rule.specs.Retirements.{RetirementsFit}

-- a list begins with another
abbrev pub StartsWith : {A : Type 0} → List A → List A → Type 0
StartsWith {A} whole start = (rest : List A) × (whole ≡ start ++ rest)

-- how many records of its own range each caller may draw, where the allocator is `Once`
abbrev pub range : Setup → ℕ
range setup = (setup.records - setup.roots) / setup.callers

-- no word says that the record with the index i + 1 was drawn
abbrev pub IsLeftBy : AllocatorName → Setup → Memory → ℕ → Type 0
IsLeftBy Bump setup m i = m.drawn ≤ i
IsLeftBy Once setup m i = (setup.roots ≤ i) × (slice_index_or m.cursors ((i - setup.roots) / range setup) 0 ≤ (i - setup.roots) % range setup)

abbrev pub IsLeft : Setup → Memory → ℕ → Type 0
IsLeft setup m i = IsLeftBy setup.allocator setup m i

-- where the allocator is `Once`, each caller's cursor is the number of records that it drew
abbrev pub CursorsFit : Setup → List ℕ → List Book → Type 0
CursorsFit setup cursors books = setup.allocator ≡ Once → (c : ℕ) (b : Book) → At books c b → slice_index_or cursors c 0 ≡ b.moves.drawn

-- 1 for a caller that added to the number of records drawn when none was left, which it does once
abbrev pub overshoot_by : Drawing → ℕ
overshoot_by Unsure = 0
overshoot_by Below = 0
overshoot_by Past = 1

abbrev pub overshoot : Book → ℕ
overshoot b = overshoot_by b.drawing

-- the book of caller c says what is so
pub record BookFits (setup : Setup) (m : Memory) (records : List Record) (c : ℕ) (b : Book) : Type 0 where
  pub number : b.caller ≡ c
  pub mine : b.mine ≡ map (share c) records
  pub past : b.drawing ≡ Past → setup.records ≤ m.drawn

abbrev pub carried_if : Bool → View → List Book
carried_if true v = v.own ∷ v.others
carried_if false v = []

-- the books that a pass carries, its own first
abbrev pub carries : View → List Book
carries v = carried_if v.present v

-- A pass that noted so many updates and so many records taken out noted all up to the start of its caller's guard, and all updates up to where each record was reached that its caller has a note of. What its caller holds or waits for was reached behind that start
pub record IsRecent (updates taken_out : ℕ) (g : Guard) (notes : List Note) : Type 0 where
  pub updates_since : g.start_updates ≤ updates
  pub taken_since : g.start_taken_out ≤ taken_out
  pub reached : (p : ℕ) (note : Note) → At notes p note → note.reached_at ≤ updates
  pub behind : (p : ℕ) (r : RefParts) (note : Note) → At g.holds p (Some r) → At notes p note → g.start_updates ≤ note.reached_at
  pub waits : (p : ℕ) (r : RefParts) (note : Note) → g.pending ≡ Some (p, r) → At notes p note → g.start_updates ≤ note.reached_at

-- what the pass in seat j knows is so
pub record SeatFits (setup : Setup) (books : List Book) (seats : List ℕ) (taken_out : List RefParts) (updates : List Update) (j : ℕ) (v : View) : Type 0 where
  pub setup_is : v.present ≡ true → v.setup ≡ setup
  pub books_are : (p : ℕ) (b : Book) → get_elem? (carries v) p ≡ some b → (get_elem? books b.caller ≡ some b) × (get_elem? seats b.caller ≡ some j)
  pub apart : (p q : ℕ) (a b : Book) → get_elem? (carries v) p ≡ some a → get_elem? (carries v) q ≡ some b → a.caller ≡ b.caller → p ≡ q
  pub front : StartsWith updates v.front
  pub seen_updates : StartsWith updates v.seen_updates
  pub seen_taken_out : StartsWith taken_out v.seen_taken_out
  -- the pass has seen what comes before the place of each call that a caller whose book it carries had answered
  pub behind : (p n : ℕ) (b : Book) (a : Answered) → At (carries v) p b → At b.answered n a → after a ≤ length v.front
  -- it noted what its callers' guards and notes speak of
  pub recent : (p : ℕ) (b : Book) → At (carries v) p b → IsRecent (length v.seen_updates) (length v.seen_taken_out) b.guard b.notes

-- what no step breaks: nothing changes the lock of the pool nor the words that the table's allocator doesn't use, and a caller draws within its range
pub record AreUntouched (setup : Setup) (lock blank drawn : ℕ) (cursors : List ℕ) : Type 0 where
  pub lock_is : lock ≡ 0
  pub blank_is : blank ≡ 0
  pub cursors_are : setup.allocator ≡ Bump → cursors ≡ replicate setup.callers 0
  pub drawn_is : setup.allocator ≡ Once → drawn ≡ setup.roots
  pub cursors_within : setup.allocator ≡ Once → (c n : ℕ) → At cursors c n → n ≤ range setup

module _ (setup : Setup) (records : List Record) (books : List Book) where
  -- where each record is
  pub record Places (m : Memory) : Type 0 where
    pub many : length records ≡ setup.records
    pub rows : map (λ (r : Record). r.row) records ≡ m.rows
    pub sound : (i : ℕ) (r : Record) → get_elem? records i ≡ some r → IsSound setup i r
    pub left : (i : ℕ) (r : Record) → get_elem? records i ≡ some r → IsLeft setup m i → r.place ≡ Undrawn
    pub undrawn : (i : ℕ) (r : Record) → get_elem? records i ≡ some r → r.place ≡ Undrawn → IsLeft setup m i
    -- the number of records drawn passes the number of records by at most 1 for each caller
    pub drawn : m.drawn ≤ setup.records + sum_by overshoot books
    pub untouched : AreUntouched setup m.lock m.blank m.drawn m.cursors
    -- the chains on the shelves of the pool
    pub shelves : ShelvesFit (map pool_cell records) m.shelves
    pub callers : length books ≡ setup.callers
    pub books_fit : (c : ℕ) (b : Book) → get_elem? books c ≡ some b → BookFits setup m records c b

-- the guard of caller d has its four announcement words
pub record HasWords (announced : List ℕ) (d : ℕ) (g : Guard) : Type 0 where
  pub same : g.announced ≡ stretch (4 * d) 4 announced
  pub four : length g.announced ≡ 4

-- what holds of the records, of what callers hold and of the history
pub record Parts (s : ShapeFacts) (c : CoverFacts) (setup : Setup) (o : Outline) : Type 0 where
  pub taken : TakenFits setup o.takings o.taken_out
  pub held : (d : ℕ) (g : Guard) (notes : List Note) → At o.guards d g → At o.notes d notes → HeldFits s c.places o.shapes o.taken_out g notes
  pub known : (d : ℕ) (g : Guard) (notes : List Note) (roots : List (List ℕ)) → At o.guards d g → At o.notes d notes → At o.roots d roots → KnownFits s setup (shape_input o) o.updates g notes roots
  pub locks : LocksFit s o.shapes o.locks
  pub shape : s.formed setup (shape_input o)
  pub told : s.told setup (shape_input o) (trace o)
  pub scheme : c.covered setup (scheme_input o)
  -- each guard has its caller's four announcement words
  pub words : (d : ℕ) (g : Guard) → At o.guards d g → HasWords o.announced d g
  -- no guard started in the future
  pub begun : (d : ℕ) (g : Guard) → At o.guards d g → g.start_updates ≤ length o.updates
  pub history : HistoryFits s setup.set o.updates o.answered o.offers

pub record Rule (s : ShapeFacts) (c : CoverFacts) (setup : Setup) (t : State (Unit {0}) View) : Type 0 where
  pub records : List Record
  -- by caller: its book, and the seat that carries it
  pub books : List Book
  pub seats : List ℕ
  -- the records that were taken out, and the updates that took effect, each in order
  pub taken_out : List RefParts
  pub updates : List Update
  -- the table is for this set and this reclaimer
  pub set_is : setup.set ≡ s.name
  pub reclaimer_is : setup.reclaimer ≡ c.name
  pub wide : length t.words ≡ size setup.callers setup.records
  pub places : Places setup records books (memory setup.callers setup.records t.words)
  pub parts : Parts s c setup (outline (memory setup.callers setup.records t.words) records books taken_out updates)
  -- the callers' moves of records are the records'
  pub counts : CountsFit setup.first records books
  pub cursors : CursorsFit setup (memory setup.callers setup.records t.words).cursors books
  -- and each record was retired at each of its generations as often as it shows
  pub retirements : RetirementsFit setup.first records books
  -- no guard started at a step that is still to come
  pub start_made : (c : ℕ) (b : Book) → At books c b → b.guard.start_step ≤ length b.steps
  -- each step found and left what it may by its word and its kind, and on a held record its generation
  pub made : (c : ℕ) (b : Book) → At books c b → (n : ℕ) (t : Step) → At b.steps n t → StepFits setup c t
  -- and each on the word that counts the records drawn found no more there than is there now
  pub seen : (c : ℕ) (b : Book) → At books c b → (n : ℕ) (step : Step) → At b.steps n step → FoundWithin (memory setup.callers setup.records t.words).drawn step
  pub seated : (j : ℕ) (v : View) → get_elem? t.views j ≡ some v → SeatFits setup books seats taken_out updates j v
