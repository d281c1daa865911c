-- Lists of keys that rise.
use Rattle.std.specs.Prelude.{◌≡◌, ℕ, ◌<◌, ◌≤◌, List, [], ◌∷◌, length, slice_index}
use Rattle.std.specs.List.{AllByRecursion}

-- each key is below all later ones
abbrev pub IsRising : List ℕ → Type 0
IsRising [] = Unit {0}
IsRising (key ∷ keys) = AllByRecursion (λ later. key < later) keys × IsRising keys

-- the key stands at this place
pub record StandsAt (keys : List ℕ) (key place : ℕ) : Type 0 where
  pub within : place < length keys
  pub is : slice_index keys place ≡ key

-- the key belongs at this place and isn't there: the keys before it are smaller, those from it on greater
pub record BelongsAt (keys : List ℕ) (key place : ℕ) : Type 0 where
  pub within : place ≤ length keys
  pub smaller : (k : ℕ) → k < place → slice_index keys k < key
  pub greater : (k : ℕ) → place ≤ k → k < length keys → key < slice_index keys k
