use Rattle.std.proofs.Common.{◌≡◌, ◌*◌, ◌≤◌, take}
use Rattle.std.specs.Prelude.{sum}
use Rattle.set_model.proofs.plain_set.total_of.Given as goal

-- the keys so far, each below 2 ^ 64
abbrev pub invariant-loop-key : goal.invariant-loop-key
invariant-loop-key l = record { so_far : l.total ≡ sum (take l.key-index l.keys); bound : l.total ≤ l.key-index * 18446744073709551615 }
