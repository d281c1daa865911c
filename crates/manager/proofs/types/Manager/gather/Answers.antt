use Rattle.std.proofs.Common.{◌<◌, length, arith}
use Rattle.record_rule.proofs.Lists.{below_at}
use Rattle.manager.proofs.MeetingAll.{at_read, met_none, met_kept, met_then, have_met_none, have_met_set, met_at_rest, gather_more}
use Rattle.manager.proofs.types.Manager.gather.Goals as goal

pub loop-other-init : goal.loop-other-init
loop-other-init g c = record {
  others = have_met_none g.R.Scheme.is_local c.args.self.now.table c.args.others.now c.requires.others;
  into = met_none g.R.Scheme.is_local c.args.self.now.table c.args.into.now c.requires.into;
  gathered = λ i a low was. absurd (omega (arith, low));
}

pub meet-requires-clause-of : goal.meet-requires-clause-of
meet-requires-clause-of g c =
    let w = c.loop-other.invariant in
    let low : c.loop-other.other-index < length c.loop-other.others = omega (arith, c.loop-other-test.true, c.loop-other.auto.others, c.loop-other.auto.other-index-end) in
    ((met_at_rest g.R.Scheme.is_local c.args.self.now.table _ _ w.others _ _ (at_read c.loop-other.others c.loop-other.other-index c.other-item.result low)).of, w.into.rest.of)

pub meet-requires-clause-callers : goal.meet-requires-clause-callers
meet-requires-clause-callers g c =
    let w = c.loop-other.invariant in
    let low : c.loop-other.other-index < length c.loop-other.others = omega (arith, c.loop-other-test.true, c.loop-other.auto.others, c.loop-other.auto.other-index-end) in
    ((met_at_rest g.R.Scheme.is_local c.args.self.now.table _ _ w.others _ _ (at_read c.loop-other.others c.loop-other.other-index c.other-item.result low)).resting, w.into.rest.resting)

pub loop-other-preserved : goal.loop-other-preserved
loop-other-preserved g c =
    let w = c.loop-other.invariant in
    let e = c.meet.ensures in
    let low : c.loop-other.other-index < length c.loop-other.others = omega (arith, c.loop-other-test.true, c.loop-other.auto.others, c.loop-other.auto.other-index-end) in
    let at = at_read c.loop-other.others c.loop-other.other-index c.other-item.result low in
    record {
      others = have_met_set g.R.Scheme.is_local c.args.self.now.table _ _ _ _ _ w.others at (met_kept g.R.Scheme.is_local c.args.self.now.table _ c.meet.new.from e.of.0 e.from_caller e.from_pass e.unchanged);
      into = met_then g.R.Scheme.is_local c.args.self.now.table _ _ _ w.into record { rest = record { of = e.of.1; resting = e.into_caller }; same = e.into_pass; longer = e.own; unchanged = e.rest };
      gathered = gather_more g.R.Scheme.is_local c.args.self.now.table _ _ _ _ c.loop-other.into c.meet.new.into w.others at w.gathered e.own e.met;
    }

pub returns-clause-gathered : goal.returns-clause-gathered
returns-clause-gathered g c =
    let w = c.loop-other.invariant in
    λ i a was. w.gathered i a (omega (arith, below_at c.args.others.now i a was, c.loop-other-test.false, w.others.many, c.loop-other.auto.others, c.loop-other.auto.other-index-end)) was
