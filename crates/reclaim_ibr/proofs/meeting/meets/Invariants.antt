use Rattle.std.proofs.Common.{◌≡◌, length}
use Rattle.ibr_facts.specs.Keeping.{is_met}
use Rattle.reclaim_ibr.proofs.meeting.meets.Given as goal

abbrev pub invariant-loop-rest : goal.invariant-loop-rest
invariant-loop-rest l = record { rest : is_met l.rest l.birth l.stamp ≡ is_met l.ends l.birth l.stamp }

abbrev pub decreases-loop-rest : goal.decreases-loop-rest
decreases-loop-rest l = length l.rest
