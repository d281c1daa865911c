use Rattle.std.proofs.Common.{◌≡◌, length}
use Rattle.set_runs.proofs.Learning.{Gathering}
use Rattle.set_runs.proofs.meeting.gather.Given as goal

abbrev pub invariant-loop-at : goal.invariant-loop-at
invariant-loop-at g l = record {
  last : l.at-end ≡ length l.fn.others;
  gathering : Gathering g.S.ConcurrentSet.has l.set g.S.ConcurrentSet.view l.fn.first l.fn.others l.at l.first l.others;
}
