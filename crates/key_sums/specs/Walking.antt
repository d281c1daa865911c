-- A walk over the paths of all roots, in order of number: where it stands, and what it has counted.
use Rattle.std.specs.Prelude.{◌≡◌, ℕ, ◌+◌, ◌-◌, ◌*◌, ◌^◌, ◌<◌, ◌≤◌, ◌⊎◌, ◌↔◌, List, Bool, true, length, drop, count_by, Option, Some, None, IsTrue}
use Rattle.set_model.specs.Keys.{Keys, contains, size_of, sum_of}
use Rattle.record_memory.specs.declared.books.Setup.{Setup}
use Rattle.row_words.specs.Refs.{RefParts, LinkParts}
use Rattle.record_rule.specs.Facts.{At, HasMark}
use Rattle.record_table.specs.declared.closing.Closed.{Closed}
use Rattle.record_table.specs.Closing.{closed_setup}
use Rattle.list_facts.specs.Paths.{row_link, row_key, IsPath, IsPathOf, StandsOn}
use Rattle.key_sums.specs.Sums.{closed_rows}

-- the walk has been at the first records of this root's path, as many as `place`, and this link leads on
pub record IsAt (setup : Setup) (rows : List (List ℕ)) (root place : ℕ) (link : LinkParts) : Type 0 where
  pub low : root < setup.roots
  pub path : List RefParts
  pub is_path : IsPathOf rows root path
  pub rest : IsPath rows link.target (drop place path)

-- the record with the index i + 1 stands on the path of an earlier root, or on this one's before the place
abbrev pub IsPassed : Setup → List (List ℕ) → ℕ → ℕ → ℕ → Type 0
IsPassed setup rows root place i = (n : ℕ) × (p : ℕ) × (n < setup.roots) × StandsOn rows n p i × ((n < root) ⊎ ((n ≡ root) × (p < place)))

-- it has counted the keys of the records without a mark that it has been at
pub record Counted (setup : Setup) (rows : List (List ℕ)) (root place size sum : ℕ) : Type 0 where
  pub keys : Keys
  pub size_is : size ≡ size_of keys
  pub sum_is : sum ≡ sum_of keys
  pub each : (k : ℕ) → IsTrue (contains keys k) ↔ ((i : ℕ) × IsPassed setup rows root place i × (¬ HasMark (row_link rows i)) × (row_key rows i ≡ k))
  -- the rows at which it has been, each once, so that the numbers stay small
  pub seen : List Bool
  pub long : length seen ≡ length rows
  pub few : size ≤ count_by (λ b. b) seen
  pub small : sum ≤ count_by (λ b. b) seen * 2 ^ 40
  pub visited : (i : ℕ) → At seen i true → IsPassed setup rows root place i

abbrev pub HasCounted : Closed → ℕ → ℕ → ℕ → ℕ → Type 0
HasCounted c = Counted (closed_setup c) (closed_rows c)

-- how many records may come behind a link, by the next one's key, since keys rise
abbrev pub left_behind : List (List ℕ) → Option RefParts → ℕ
left_behind rows None = 0
left_behind rows (Some r) = 2 ^ 40 + 1 - row_key rows (r.index - 1)
