-- The paths of a table's roots, read off its rows: from a root by word 3 of each record.
use Rattle.std.specs.Prelude.{◌≡◌, ℕ, ◌+◌, ◌-◌, ◌%◌, ◌<◌, ◌↔◌, List, [], ◌∷◌, length, slice_index_or, Option, Some, None, IsTrue}
use Rattle.set_model.specs.Keys.{Keys, contains}
use Rattle.record_memory.specs.declared.books.Setup.{Setup}
use Rattle.row_words.specs.Refs.{RefParts, LinkParts}
use Rattle.row_words.specs.Packing.{own_in, link_in, key_in}
use Rattle.record_rule.specs.Facts.{At, HasMark}

-- word f of the record with the index i + 1
abbrev pub row_word : List (List ℕ) → ℕ → ℕ → ℕ
row_word rows i f = slice_index_or (slice_index_or rows i []) f 0

abbrev pub row_link : List (List ℕ) → ℕ → LinkParts
row_link rows i = link_in (row_word rows i 3)

abbrev pub row_key : List (List ℕ) → ℕ → ℕ
row_key rows i = key_in (row_word rows i 4)

-- the reference names a row, and each word of that row carries its generation
pub record NamesRow (rows : List (List ℕ)) (r : RefParts) : Type 0 where
  pub index : 0 < r.index
  pub within : r.index - 1 < length rows
  pub carries : (f : ℕ) → f < 8 → own_in (row_word rows (r.index - 1) f) ≡ r.generation

-- these are the records behind a link, in order: each is the target of word 3 of the one before, and the last has none
abbrev pub IsPath : List (List ℕ) → Option RefParts → List RefParts → Type 0
IsPath rows t [] = t ≡ None
IsPath rows t (r ∷ rs) = (t ≡ Some r) × NamesRow rows r × IsPath rows (row_link rows (r.index - 1)).target rs

abbrev pub IsPathOf : List (List ℕ) → ℕ → List RefParts → Type 0
IsPathOf rows n path = IsPath rows (row_link rows n).target path

-- the record with the index i + 1 stands on the path of root n, at place p
pub record StandsOn (rows : List (List ℕ)) (n p i : ℕ) : Type 0 where
  pub path : List RefParts
  pub is_path : IsPathOf rows n path
  pub ref : RefParts
  pub at : At path p ref
  pub named : ref.index ≡ i + 1

-- it stands on some root's
abbrev pub IsOnPath : Setup → List (List ℕ) → ℕ → Type 0
IsOnPath setup rows i = (n : ℕ) × (p : ℕ) × (n < setup.roots) × StandsOn rows n p i

-- the rows have a key that is present: one of a record on a path, whose link has no mark
abbrev pub HasPresent : Setup → List (List ℕ) → ℕ → Type 0
HasPresent setup rows k = (i : ℕ) × IsOnPath setup rows i × (¬ HasMark (row_link rows i)) × (row_key rows i ≡ k)

-- the set of a closed table
abbrev pub IsSetOf : Setup → List (List ℕ) → Keys → Type 0
IsSetOf setup rows keys = (k : ℕ) → IsTrue (contains keys k) ↔ HasPresent setup rows k

-- What holds of the paths of sorted lists; `linked` says which records are linked
pub record ArePaths (setup : Setup) (rows : List (List ℕ)) (linked : ℕ → Type 0) : Type 0 where
  -- each root has exactly one path
  pub each : (n : ℕ) → n < setup.roots → (path : List RefParts) × IsPathOf rows n path
  pub only : (n : ℕ) (a b : List RefParts) → n < setup.roots → IsPathOf rows n a → IsPathOf rows n b → a ≡ b
  -- no record stands on two, nor twice on one, and no root on any
  pub apart : (n m p q i : ℕ) → n < setup.roots → m < setup.roots → StandsOn rows n p i → StandsOn rows m q i → (n ≡ m) × (p ≡ q)
  pub behind : (n p i : ℕ) → n < setup.roots → StandsOn rows n p i → ¬ (i < setup.roots)
  -- a record is linked exactly where it stands on one
  pub linked_is : (i : ℕ) → linked i → IsOnPath setup rows i
  pub is_linked : (i : ℕ) → IsOnPath setup rows i → linked i
  -- keys are congruent to the root's number and rise, so no key is there twice
  pub home : (n p i : ℕ) → n < setup.roots → StandsOn rows n p i → row_key rows i % setup.roots ≡ n
  pub rising : (n p q i j : ℕ) → n < setup.roots → StandsOn rows n p i → StandsOn rows n q j → p < q → row_key rows i < row_key rows j
  pub once : (i j : ℕ) → linked i → linked j → row_key rows i ≡ row_key rows j → i ≡ j
