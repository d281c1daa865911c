-- The records of a table with where each is, and what a caller that has a record knows of it.
use Rattle.std.specs.Prelude.{◌≡◌, ℕ, ◌+◌, ◌-◌, ◌<◌, ◌≤◌, ◌^◌, ◌≢◌, ◌⊎◌, List, length, take, replicate, Option, Some, None, slice_index_or, nat_lt, ◌==◌, if◌then◌else◌}
use Rattle.record_memory.specs.declared.books.Setup.{Setup}
use Rattle.record_memory.specs.declared.books.Standing.{Standing}
use Rattle.record_memory.specs.declared.books.Standing.TheVariants.{Handing, Own, Spare, TakenOut, Limbo, Free, Spent}
use Rattle.record_memory.specs.declared.books.Place.{Place}
use Rattle.record_memory.specs.declared.books.Place.TheVariants.{Undrawn, Root, Linked, Shelved, Of}
use Rattle.record_memory.specs.declared.books.Share.{Share}
use Rattle.row_words.specs.Packing.{link_in, own_in, IsPackedLink, packed_number}

-- the numbers that a table may be made with
pub record IsSetup (setup : Setup) : Type 0 where
  pub roots : 0 < setup.roots
  pub rooted : setup.roots ≤ setup.records
  pub records : setup.records < 2 ^ 20
  pub some_caller : 0 < setup.callers
  pub callers : setup.callers ≤ 64
  pub some_first : 0 < setup.first
  pub first : setup.first < 2 ^ 20

-- the words of a record that was never handed out
abbrev pub blank_row : ℕ → List ℕ
blank_row first = replicate 8 (packed_number (first - 1) 0)

pub record Record : Type 0 where
  pub place : Place
  -- its generation; of a record that is being handed out, the new one
  pub generation : ℕ
  -- how many records were taken out before it, at which epoch it was retired, and the position of the removal that marked it: each says nothing before that
  pub taken_number : ℕ
  pub retired : ℕ
  pub marked : ℕ
  -- its eight words
  pub row : List ℕ

-- what the caller that has a record knows of its words
abbrev pub known : Standing → List ℕ → List ℕ
known (Handing n) row = row
known Own row = row
known Spare row = row
known TakenOut row = take 3 row
known Limbo row = take 3 row
known Free row = take 3 row
known Spent row = take 3 row

abbrev pub share_at : ℕ → Place → Record → Option Share
share_at c Undrawn r = None
share_at c Root r = None
share_at c Linked r = None
share_at c (Shelved k) r = None
share_at c (Of b s) r = if b == c then Some (record { standing = s; generation = r.generation; taken_number = r.taken_number; words = known s r.row }) else None

-- what caller c knows of a record
abbrev pub share : ℕ → Record → Option Share
share c r = share_at c r.place r

-- the generation that a word of a record carries
abbrev pub carried_by : Standing → ℕ → ℕ → ℕ
carried_by (Handing n) generation f = if nat_lt f n then generation else generation - 1
carried_by Own generation f = generation
carried_by Spare generation f = generation
carried_by TakenOut generation f = generation
carried_by Limbo generation f = generation
carried_by Free generation f = generation
carried_by Spent generation f = generation

abbrev pub carried : Place → ℕ → ℕ → ℕ
carried Undrawn generation f = generation
carried Root generation f = generation
carried Linked generation f = generation
carried (Shelved k) generation f = generation
carried (Of c s) generation f = carried_by s generation f

-- the words that hold links: a chain's and a set's
abbrev pub IsLinkField : ℕ → Type 0
IsLinkField f = (f ≡ 1) ⊎ (f ≡ 3)

-- what stands in such a word: a link, and in a chain word one without flags
abbrev pub IsLinkIn : ℕ → ℕ → Type 0
IsLinkIn f n = IsPackedLink n × (f ≡ 1 → (link_in n).flags ≡ 0)

-- what holds of the record with the index i + 1, wherever it is
pub record IsSound (setup : Setup) (i : ℕ) (r : Record) : Type 0 where
  pub eight : length r.row ≡ 8
  -- all eight words carry its generation, but for those that its owner has still to store while it hands it out
  pub generations : (f : ℕ) → f < 8 → own_in (slice_index_or r.row f 0) ≡ carried r.place r.generation f
  -- words 1 and 3 hold links
  pub links : (f : ℕ) → IsLinkField f → IsLinkIn f (slice_index_or r.row f 0)
  pub within : r.generation < 2 ^ 20
  -- the roots are the first records and never move
  pub roots : i < setup.roots → r.place ≡ Root
  pub no_root : r.place ≡ Root → i < setup.roots
  pub root_generation : r.place ≡ Root → r.generation ≡ setup.first
  -- a record that was never handed out has the generation before the first one
  pub unborn : r.place ≡ Undrawn → r.generation + 1 ≡ setup.first
  pub blank : r.place ≡ Undrawn → r.row ≡ blank_row setup.first
  pub born : r.place ≢ Undrawn → setup.first ≤ r.generation
  -- the handing out of a record ends with its last word, and only callers have records
  pub unfinished : (c n : ℕ) → r.place ≡ Of c (Handing n) → n < 8
  pub callers : (c : ℕ) (s : Standing) → r.place ≡ Of c s → c < setup.callers
  -- a free record is below the last generation, 1,048,575, so it can be handed out again
  pub renewable : (c : ℕ) → r.place ≡ Of c Free → r.generation < 1048575
  -- and so is one on a shelf
  pub shelved : (k : ℕ) → r.place ≡ Shelved k → r.generation < 1048575
