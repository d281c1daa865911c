use Rattle.std.proofs.Common.{◌≡◌}
use Rattle.record_table.specs.Handles.{view}
use Rattle.manager.specs.Meeting.{HasMet, HaveMet}
use Rattle.manager.proofs.MeetingAll.{HaveLearntTo}
use Rattle.manager.proofs.types.Manager.spread.Given as goal

-- the callers before this one have learnt what `from` had seen, and it knows the same still
abbrev pub invariant-loop-other : goal.invariant-loop-other
invariant-loop-other g l = record {
  from : HasMet g.R.Scheme.is_local l.self.table l.fn.from l.from;
  kept : view l.from.pass ≡ view l.fn.from.pass;
  others : HaveMet g.R.Scheme.is_local l.self.table l.fn.others l.others;
  learnt : HaveLearntTo l.fn.from l.other-index l.others;
}
