use Rattle.michael_hash.specs.Callers.{IsWholeCallerOf}
use Rattle.list_bench.proofs.play.Given as goal

abbrev pub invariant-loop-call : goal.invariant-loop-call
invariant-loop-call g l = record { caller : IsWholeCallerOf g.R.Scheme.is_local l.hash.lists.manager.table l.caller }
