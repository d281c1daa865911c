-- The flat words of a table, read as control words by name and rows of eight words.
use Rattle.std.specs.Prelude.{ℕ, zero, suc, ◌+◌, ◌-◌, ◌*◌, ◌/◌, ◌%◌, ◌<◌, ◌≤◌, List, [], ◌∷◌, take, drop, slice_index_or, slice_set, nat_lt, ◌==◌, if◌then◌else◌}
use Rattle.record_memory.specs.declared.steps.Word.{Word}
use Rattle.record_memory.specs.declared.steps.Word.TheVariants.{Drawn, Epoch, Lock, Blank, Shelf, Announced, Cursor, Field}

pub record Memory : Type 0 where
  pub drawn : ℕ
  pub epoch : ℕ
  pub lock : ℕ
  pub blank : ℕ
  pub shelves : List ℕ
  -- four for each caller
  pub announced : List ℕ
  -- one for each caller
  pub cursors : List ℕ
  -- record i at i - 1
  pub rows : List (List ℕ)

-- `count` words from `start` on
abbrev pub stretch : ℕ → ℕ → List ℕ → List ℕ
stretch start count words = take count (drop start words)

-- the first `count` rows
abbrev pub rows_in : ℕ → List ℕ → List (List ℕ)
rows_in zero words = []
rows_in (suc count) words = take 8 words ∷ rows_in count (drop 8 words)

-- how many control words there are
abbrev pub controls : ℕ → ℕ
controls callers = 20 + 5 * callers

module _ (callers : ℕ) where
  -- where a word lies
  abbrev pub address : Word → ℕ
  address Drawn = 0
  address Epoch = 1
  address Lock = 2
  address Blank = 3
  address (Shelf k) = 4 + k
  address (Announced k) = 20 + k
  address (Cursor c) = 20 + 4 * callers + c
  address (Field i f) = 20 + 5 * callers + 8 * (i - 1) + f

  -- the word that lies at a place
  abbrev pub word_at : ℕ → Word
  word_at w = if w == 0 then Drawn else (if w == 1 then Epoch else (if w == 2 then Lock else (if w == 3 then Blank else (if nat_lt w 20 then Shelf (w - 4) else
      (if nat_lt w (20 + 4 * callers) then Announced (w - 20) else (if nat_lt w (20 + 5 * callers) then Cursor (w - (20 + 4 * callers)) else
      Field ((w - (20 + 5 * callers)) / 8 + 1) ((w - (20 + 5 * callers)) % 8)))))))

  module _ (records : ℕ) where
    -- how many words there are
    abbrev pub size : ℕ
    size = 20 + 5 * callers + 8 * records

    -- what the words say
    unfoldable pub memory : List ℕ → Memory
    memory words = record {
      drawn = slice_index_or words 0 0;
      epoch = slice_index_or words 1 0;
      lock = slice_index_or words 2 0;
      blank = slice_index_or words 3 0;
      shelves = stretch 4 16 words;
      announced = stretch 20 (4 * callers) words;
      cursors = stretch (20 + 4 * callers) callers words;
      rows = rows_in records (drop (20 + 5 * callers) words);
    }

    -- it is a word of the table
    abbrev pub IsWord : Word → Type 0
    IsWord Drawn = Unit {0}
    IsWord Epoch = Unit {0}
    IsWord Lock = Unit {0}
    IsWord Blank = Unit {0}
    IsWord (Shelf k) = k < 16
    IsWord (Announced k) = k < 4 * callers
    IsWord (Cursor c) = c < callers
    IsWord (Field i f) = (0 < i) × (i ≤ records) × (f < 8)

-- the row of record i
abbrev pub row_at : List (List ℕ) → ℕ → List ℕ
row_at rows i = slice_index_or rows (i - 1) []

-- the value of a word
abbrev pub fetch : Memory → Word → ℕ
fetch m Drawn = m.drawn
fetch m Epoch = m.epoch
fetch m Lock = m.lock
fetch m Blank = m.blank
fetch m (Shelf k) = slice_index_or m.shelves k 0
fetch m (Announced k) = slice_index_or m.announced k 0
fetch m (Cursor c) = slice_index_or m.cursors c 0
fetch m (Field i f) = slice_index_or (row_at m.rows i) f 0

-- the memory with another value of a word
abbrev pub put : Memory → Word → ℕ → Memory
put m Drawn v = record m { drawn = v }
put m Epoch v = record m { epoch = v }
put m Lock v = record m { lock = v }
put m Blank v = record m { blank = v }
put m (Shelf k) v = record m { shelves = slice_set m.shelves k v }
put m (Announced k) v = record m { announced = slice_set m.announced k v }
put m (Cursor c) v = record m { cursors = slice_set m.cursors c v }
put m (Field i f) v = record m { rows = slice_set m.rows (i - 1) (slice_set (row_at m.rows i) f v) }
