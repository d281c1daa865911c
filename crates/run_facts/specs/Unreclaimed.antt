-- Runs without reclamation.
use Rattle.std.specs.Prelude.{◌≡◌}
use Rattle.set_model.specs.declared.calls.Counts.{Counts}

-- no record was freed, so none was used again, and none is free or spent
pub record IsUnreclaimed (c : Counts) : Type 0 where
  pub reused : c.reused ≡ 0
  pub freed : c.freed ≡ 0
  pub free : c.free ≡ 0
  pub spent : c.spent ≡ 0
