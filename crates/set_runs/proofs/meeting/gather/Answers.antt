use Rattle.set_runs.proofs.Learning.{gathering_more}
use Rattle.set_runs.proofs.meeting.gather.Goals as goal

pub loop-at-preserved : goal.loop-at-preserved
loop-at-preserved g c =
    let s = g.S.ConcurrentSet in
    let l = c.loop-at in
    let met = c.meet.ensures in
    record {
      last = l.invariant.last;
      gathering =
          gathering_more s.has c.args.set.now s.view c.args.first.now c.args.others.now l.at l.first l.others c.index-others-at.result
          c.meet.new.from c.meet.new.into l.invariant.gathering c.loop-at-test.true met.has.0 met.unchanged met.has.1 met.met;
    }
