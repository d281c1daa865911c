-- Counts of faults. A count is a `u64` where it is kept, and stands still at the end of that type.
use Rattle.std.specs.Prelude.{ℕ, ◌+◌, ◌<◌, min}

-- the last value that a count can have
abbrev pub last_count : ℕ
last_count = 18446744073709551615

-- the count with one more
abbrev pub one_more : ℕ → ℕ
one_more count = min (count + 1) last_count

-- the count rose, unless it stands at its last value
abbrev pub Rose : ℕ → ℕ → Type 0
Rose before after = after < last_count → before < after
