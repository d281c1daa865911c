-- What a source answers.
use Rattle.std.specs.Prelude.{ℕ}
use Rattle.outside.specs.declared.source.Taking.{Taking}
use Rattle.outside.specs.declared.source.Taking.TheVariants.{Bytes, End, Failed}

-- the fact of the number of bytes that were given, if any were
abbrev pub IfBytes : Taking → (ℕ → Type 0) → Type 0
IfBytes (Bytes n) P = P n
IfBytes End P = Unit {0}
IfBytes Failed P = Unit {0}

-- the fact, if nothing was left
abbrev pub OnEnd : Taking → Type 0 → Type 0
OnEnd (Bytes n) P = Unit {0}
OnEnd End P = P
OnEnd Failed P = Unit {0}

-- the fact, if the call failed
abbrev pub OnFailed : Taking → Type 0 → Type 0
OnFailed (Bytes n) P = Unit {0}
OnFailed End P = Unit {0}
OnFailed Failed P = P
