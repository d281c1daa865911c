use Rattle.std.proofs.Common.{◌≡◌, ◌++◌, All, vec_len}
use mathlib.Core.List.{reverse}
use Rattle.manager.specs.Callers.{IsResting}
use Rattle.manager.specs.Made.{passes_of}
use Rattle.manager.proofs.Seats.{IsNew}
use Rattle.manager.proofs.making.seat_all.Given as goal

-- the passes that are left still have to be seated
abbrev pub invariant-loop-pass : goal.invariant-loop-pass
invariant-loop-pass g l = record {
  rest : All (IsNew l.table g.R.Cover.facts.first) l.passes.items;
  made : All (IsResting g.R.Scheme.is_local) l.callers.items;
  all : passes_of l.callers.items ++ reverse l.passes.items ≡ l.fn.passes.items;
}

abbrev pub decreases-loop-pass : goal.decreases-loop-pass
decreases-loop-pass g l = vec_len l.passes
