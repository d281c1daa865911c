-- What a source gave, of which `left` tells the bytes that are left, between two moments.
use Rattle.std.specs.Prelude.{◌≡◌, ℕ, ◌<◌, ◌≤◌, List, length, Option}
use Rattle.outside.specs.Bytes.{with_front, IsAllGiven}

-- the source gave just these bytes
abbrev pub Gave : {S : Type 0} → (S → Option (List ℕ)) → S → S → List ℕ → Type 0
Gave left before after bytes = left before ≡ with_front bytes (left after)

-- the source gave just these bytes, and has no more, where it tells that
pub record GaveAll {S : Type 0} (left : S → Option (List ℕ)) (before after : S) (bytes : List ℕ) : Type 0 where
  pub gave : Gave left before after bytes
  pub all : IsAllGiven (left after)

-- the source gave more bytes than a workload may have, by no more than one piece
abbrev pub GaveTooMany : {S : Type 0} → (S → Option (List ℕ)) → S → S → Type 0
GaveTooMany left before after = (given : List ℕ) × Gave left before after given × (67108864 < length given) × (length given ≤ 67112960)

-- the source gave no more bytes than a workload may have
abbrev pub GaveFew : {S : Type 0} → (S → Option (List ℕ)) → S → S → Type 0
GaveFew left before after = (given : List ℕ) × Gave left before after given × (length given ≤ 67108864)
