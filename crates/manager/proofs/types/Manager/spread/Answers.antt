use Rattle.std.proofs.Common.{refl, ◌<◌, List, length, ap, ◌∙◌, subst, arith}
use Rattle.set_model.specs.declared.calls.Update.{Update}
use Rattle.record_memory.specs.declared.books.View.{View}
use Rattle.record_rule.specs.World.{StartsWith}
use Rattle.record_rule.proofs.Lists.{below_at}
use Rattle.manager.specs.Meeting.{front_of}
use Rattle.manager.proofs.MeetingAll.{at_read, met_none, met_kept, met_then, have_met_none, have_met_set, met_at_rest, spread_more}
use Rattle.manager.proofs.types.Manager.spread.Goals as goal

pub loop-other-init : goal.loop-other-init
loop-other-init g c = record {
  from = met_none g.R.Scheme.is_local c.args.self.now.table c.args.from.now c.requires.from;
  kept = refl;
  others = have_met_none g.R.Scheme.is_local c.args.self.now.table c.args.others.now c.requires.others;
  learnt = λ i b low is. absurd (omega (arith, low));
}

pub meet-requires-clause-of : goal.meet-requires-clause-of
meet-requires-clause-of g c =
    let w = c.loop-other.invariant in
    let low : c.loop-other.other-index < length c.loop-other.others = omega (arith, c.loop-other-test.true, c.loop-other.auto.others, c.loop-other.auto.other-index-end) in
    (w.from.rest.of, (met_at_rest g.R.Scheme.is_local c.args.self.now.table _ _ w.others _ _ (at_read c.loop-other.others c.loop-other.other-index c.other-item.result low)).of)

pub meet-requires-clause-callers : goal.meet-requires-clause-callers
meet-requires-clause-callers g c =
    let w = c.loop-other.invariant in
    let low : c.loop-other.other-index < length c.loop-other.others = omega (arith, c.loop-other-test.true, c.loop-other.auto.others, c.loop-other.auto.other-index-end) in
    (w.from.rest.resting, (met_at_rest g.R.Scheme.is_local c.args.self.now.table _ _ w.others _ _ (at_read c.loop-other.others c.loop-other.other-index c.other-item.result low)).resting)

pub loop-other-preserved : goal.loop-other-preserved
loop-other-preserved g c =
    let w = c.loop-other.invariant in
    let e = c.meet.ensures in
    let low : c.loop-other.other-index < length c.loop-other.others = omega (arith, c.loop-other-test.true, c.loop-other.auto.others, c.loop-other.auto.other-index-end) in
    let at = at_read c.loop-other.others c.loop-other.other-index c.other-item.result low in
    record {
      from = met_then g.R.Scheme.is_local c.args.self.now.table _ _ _ w.from (met_kept g.R.Scheme.is_local c.args.self.now.table _ c.meet.new.from e.of.0 e.from_caller e.from_pass e.unchanged);
      kept = e.unchanged ∙ w.kept;
      others = have_met_set g.R.Scheme.is_local c.args.self.now.table _ _ _ _ _ w.others at record { rest = record { of = e.of.1; resting = e.into_caller }; same = e.into_pass; longer = e.own; unchanged = e.rest };
      learnt = spread_more g.R.Scheme.is_local c.args.self.now.table _ _ c.args.from.now c.meet.new.into w.learnt
          (subst (λ (l : List Update). StartsWith (front_of c.meet.new.into) l) (ap (λ (v : View). v.front) w.kept) e.met);
    }

pub returns-clause-learnt : goal.returns-clause-learnt
returns-clause-learnt g c =
    let w = c.loop-other.invariant in
    λ i b is. w.learnt i b (omega (arith, below_at c.loop-other.others i b is, c.loop-other-test.false, c.loop-other.auto.others, c.loop-other.auto.other-index-end)) is
