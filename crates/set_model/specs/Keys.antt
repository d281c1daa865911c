-- A finite set of keys: std's finite map with nothing at each key, which std's `FinSet nat_cmp` is too. The
-- functions here are the map's, since std's lemmas tell their entries, and so the sum of the keys.
use Rattle.std.specs.Prelude.{ℕ, Bool, List, [], ◌∷◌, sum}
use Rattle.std.specs.Ordering.{nat_cmp}
use Rattle.std.specs.FinMap as map

abbrev pub Keys : Type 0
Keys = map.FinMap nat_cmp (Unit {0})

abbrev pub empty : Keys
empty = map.empty

abbrev pub contains : Keys → ℕ → Bool
contains keys key = map.contains_key keys key

abbrev pub insert : Keys → ℕ → Keys
insert keys key = map.insert keys key tt

abbrev pub remove : Keys → ℕ → Keys
remove keys key = map.remove keys key

-- the keys in order
abbrev pub items_of : Keys → List ℕ
items_of keys = map.keys keys

-- how many keys there are
abbrev pub size_of : Keys → ℕ
size_of keys = map.len keys

abbrev pub sum_of : Keys → ℕ
sum_of keys = sum (items_of keys)

-- the set of a list's keys
abbrev pub from_list : List ℕ → Keys
from_list [] = empty
from_list (key ∷ keys) = insert (from_list keys) key
