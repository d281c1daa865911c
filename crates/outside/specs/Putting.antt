-- What a sink answers.
use Rattle.std.specs.Prelude.{ℕ}
use Rattle.outside.specs.declared.sink.Putting.{Putting}
use Rattle.outside.specs.declared.sink.Putting.TheVariants.{Took, Failed}

-- the fact of the number of bytes that were taken, if any were
abbrev pub IfTook : Putting → (ℕ → Type 0) → Type 0
IfTook (Took n) P = P n
IfTook Failed P = Unit {0}

-- the fact, if the call failed
abbrev pub OnFailed : Putting → Type 0 → Type 0
OnFailed (Took n) P = Unit {0}
OnFailed Failed P = P
