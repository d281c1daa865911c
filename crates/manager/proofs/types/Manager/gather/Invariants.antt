use Rattle.manager.specs.Meeting.{HasMet, HaveMet}
use Rattle.manager.proofs.MeetingAll.{HasGatheredTo}
use Rattle.manager.proofs.types.Manager.gather.Given as goal

-- what the callers before this one had seen, `into` has seen too
abbrev pub invariant-loop-other : goal.invariant-loop-other
invariant-loop-other g l = record {
  others : HaveMet g.R.Scheme.is_local l.self.table l.fn.others l.others;
  into : HasMet g.R.Scheme.is_local l.self.table l.fn.into l.into;
  gathered : HasGatheredTo l.fn.others l.other-index l.into;
}
