-- What a gate at which callers meet is seen as.
use Rattle.std.specs.Prelude.{ℕ}
use Rattle.outside.specs.declared.meet_gate.NumberedCall.{NumberedCall}

-- the call that is held up, the one that it waits for, and for how many turns it waits at most
pub record Meeting : Type 0 where
  pub held : NumberedCall
  pub awaited : NumberedCall
  pub limit : ℕ
