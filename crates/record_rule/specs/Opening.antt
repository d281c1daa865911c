-- The table as it is made.
use Rattle.std.specs.Prelude.{ℕ, zero, suc, ◌+◌, ◌-◌, List, [], ◌∷◌, ◌++◌, replicate, map, Option, None, true}
use Rattle.record_memory.specs.declared.books.Setup.{Setup}
use Rattle.record_memory.specs.declared.books.View.{View}
use Rattle.record_memory.specs.declared.books.Book.{Book}
use Rattle.record_memory.specs.declared.books.Guard.{Guard}
use Rattle.record_memory.specs.declared.books.Moves.{Moves}
use Rattle.record_memory.specs.declared.books.Note.{Note}
use Rattle.row_words.specs.Refs.{RefParts}
use Rattle.record_memory.specs.declared.books.Place.TheVariants.{Undrawn, Root}
use Rattle.record_memory.specs.declared.books.Drawing.TheVariants.{Unsure}
use Rattle.row_words.specs.Packing.{packed_key, packed_number}
use Rattle.record_memory.specs.Memory.{controls}
use Rattle.record_rule.specs.Records.{Record, blank_row}

-- the words of a root
abbrev pub root_row : ℕ → List ℕ
root_row first = replicate 4 (packed_number first 0) ++ packed_key first 1 0 ∷ replicate 3 (packed_number first 0)

-- n rows, one after another
abbrev pub rows_of : ℕ → List ℕ → List ℕ
rows_of zero row = []
rows_of (suc n) row = row ++ rows_of n row

-- the control words: the roots count as drawn, and the epoch is 1
abbrev pub opening_controls : Setup → List ℕ
opening_controls setup = setup.roots ∷ 1 ∷ replicate (controls setup.callers - 2) 0

abbrev pub opening_words : Setup → List ℕ
opening_words setup = opening_controls setup ++ (rows_of setup.roots (root_row setup.first) ++ rows_of (setup.records - setup.roots) (blank_row setup.first))

-- what is known of a record before it is reached
abbrev pub no_note : Note
no_note = record { words = replicate 5 None; reached_at = 0; kept = [] }

abbrev pub blank_note : Option RefParts → Note
blank_note t = no_note

-- no record was moved
abbrev pub no_moves : Moves
no_moves = record { drawn = 0; reused = 0; retired = 0; freed = 0; births = 0 }

-- the book of a caller that made no step, with the reclaimer's first guard
abbrev pub first_book : Setup → Guard → ℕ → Book
first_book setup first c = record { caller = c; steps = []; mine = replicate setup.records None; moves = no_moves; drawing = Unsure; locks = []; answered = []; offer = None; guard = first; notes = map blank_note first.holds; root_notes = []; updates_seen = 0 }

-- the books of n callers from c on
abbrev pub first_books : Setup → Guard → ℕ → ℕ → List Book
first_books setup first c zero = []
first_books setup first c (suc n) = first_book setup first c ∷ first_books setup first (c + 1) n

-- what caller 0's pass knows before others are split off
abbrev pub first_view : Guard → Setup → View
first_view first setup = record { setup = setup; present = true; alone = true; own = first_book setup first 0; others = first_books setup first 1 (setup.callers - 1); front = []; seen_updates = []; seen_taken_out = [] }

-- the records, and the books by caller
abbrev pub root_record : ℕ → Record
root_record first = record { place = Root; generation = first; taken_number = 0; retired = 0; marked = 0; row = root_row first }

abbrev pub blank_record : ℕ → Record
blank_record first = record { place = Undrawn; generation = first - 1; taken_number = 0; retired = 0; marked = 0; row = blank_row first }

abbrev pub opening_records : Setup → List Record
opening_records setup = replicate setup.roots (root_record setup.first) ++ replicate (setup.records - setup.roots) (blank_record setup.first)

abbrev pub opening_books : Setup → Guard → List Book
opening_books setup first = first_books setup first 0 setup.callers
