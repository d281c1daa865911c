-- How often each record was retired at each of its generations, told by the atomic steps that callers made.
use Rattle.std.specs.Prelude.{◌≡◌, ℕ, ◌+◌, ◌-◌, ◌<◌, ◌≤◌, ◌&&◌, List, Bool, true, false, Option, Some, None, sum_by, count_by, nat_lt, ◌==◌, if◌then◌else◌}
use mathlib.Core.Option.{some, none}
use lib.ListN.{get_elem?}
use Rattle.record_memory.specs.declared.steps.Step.{Step}
use Rattle.record_memory.specs.declared.steps.StepKind.{StepKind}
use Rattle.record_memory.specs.declared.steps.StepKind.TheVariants.{Load, Store, Swap, Add, Exchange}
use Rattle.record_memory.specs.declared.steps.Word.{Word}
use Rattle.record_memory.specs.declared.steps.Word.TheVariants.{Drawn, Epoch, Lock, Blank, Shelf, Announced, Cursor, Field}
use Rattle.record_memory.specs.declared.books.Book.{Book}
use Rattle.row_words.specs.Refs.{RefParts}
use Rattle.row_words.specs.Packing.{own_in}
use Rattle.record_rule.specs.Records.{Record}
use Rattle.record_rule.specs.Facts.{At}
use Rattle.record_rule.specs.Counts.{retired_as}

-- a step of this kind stores
abbrev pub is_store : StepKind → Bool
is_store Load = false
is_store Store = true
is_store Swap = false
is_store Add = false
is_store Exchange = false

-- the word is the stamp of record i, which is its word 2
abbrev pub is_stamp_of : ℕ → Word → Bool
is_stamp_of i Drawn = false
is_stamp_of i Epoch = false
is_stamp_of i Lock = false
is_stamp_of i Blank = false
is_stamp_of i (Shelf k) = false
is_stamp_of i (Announced k) = false
is_stamp_of i (Cursor d) = false
is_stamp_of i (Field j f) = (j == i) && (f == 2)

-- no held record is named
abbrev pub names_none : Option RefParts → Bool
names_none None = true
names_none (Some r) = false

-- The step retired record i at generation g: it stored the record's stamp, named no held record, and found and left this generation there.
-- The stamp is stored while a record is handed out, too, but that store finds the generation before the one that it leaves
abbrev pub is_retirement : ℕ → ℕ → Step → Bool
is_retirement i g t = is_store t.kind && (is_stamp_of i t.word && (names_none t.held && ((own_in t.found == g) && (own_in t.left == g))))

-- how many of a caller's steps did
abbrev pub retirements : ℕ → ℕ → Book → ℕ
retirements i g b = count_by (is_retirement i g) b.steps

-- How often a record was retired at generation g: once at each of its older generations, from the first one on, and at its own once where it was retired since it was handed out last
abbrev pub retired_at : ℕ → ℕ → Record → ℕ
retired_at first g r = if nat_lt g first then 0 else if nat_lt g r.generation then 1 else if g == r.generation then retired_as r.place else 0

-- and what isn't there never was
abbrev pub retired_there : ℕ → ℕ → mathlib.Core.Option.Option Record → ℕ
retired_there first g none = 0
retired_there first g (some r) = retired_at first g r

-- record i is there, and its generation is no earlier than the one that the step left
pub record IsStoredIn (records : List Record) (i : ℕ) (t : Step) : Type 0 where
  pub some_index : 0 < i
  pub record_is : Record
  pub there : At records (i - 1) record_is
  pub own : own_in t.left ≤ record_is.generation

-- so it is with the record that the step stored a word of
abbrev pub WasStored : List Record → Step → Type 0
WasStored records t = (i f : ℕ) → t.kind ≡ Store → t.word ≡ Field i f → IsStoredIn records i t

-- Each record was retired by just so many steps of all callers as its generation and its place show
pub record RetirementsFit (first : ℕ) (records : List Record) (books : List Book) : Type 0 where
  -- a record that is being handed out for the first time has a generation before it
  pub some_first : 0 < first
  pub each : (k g : ℕ) → sum_by (retirements (k + 1) g) books ≡ retired_there first g (get_elem? records k)
  -- each store in a record's words was in a record of the table, and left no later generation than it has
  pub stored : (c : ℕ) (b : Book) → At books c b → (n : ℕ) (t : Step) → At b.steps n t → WasStored records t

-- the step hands record i out again behind generation g: it stores the next generation over it, in the stamp
pub record HandsOutAgain (i g : ℕ) (t : Step) : Type 0 where
  pub kind : t.kind ≡ Store
  pub word : t.word ≡ Field i 2
  pub found : own_in t.found ≡ g
  pub left : own_in t.left ≡ g + 1

-- Wherever a step of a caller did, just one step of all callers retired that record at generation g
abbrev pub AreRetiredBetween : ℕ → List Book → Type 0
AreRetiredBetween first books = (c : ℕ) (b : Book) → At books c b → (n : ℕ) (t : Step) → At b.steps n t → (i g : ℕ) → first ≤ g → HandsOutAgain i g t → sum_by (retirements i g) books ≡ 1
