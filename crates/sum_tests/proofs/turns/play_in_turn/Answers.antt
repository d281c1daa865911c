use Rattle.std.proofs.Common.{◌<◌, length, sym, subst, arith}
use Rattle.std.proofs.lemmas.List.Elements.{All-set}
use Rattle.record_table.specs.Handles.{IsPassOf}
use Rattle.reclaim_api.specs.Guarding.{IsSameCaller}
use Rattle.manager.specs.Callers.{IsResting}
use Rattle.manager.proofs.MeetingAll.{at_read, all_at_rest}
use Rattle.sum_tests.proofs.AllStill.{all_still}
use Rattle.reclaim_none.specs.Starting.{IsLocal}
use Rattle.sum_tests.proofs.turns.play_in_turn.Goals as goal

pub play_call-requires-clause-of : goal.play_call-requires-clause-of
play_call-requires-clause-of c =
    let w = c.loop-call.invariant in
    let low : c.if-turn-len.turn < length c.loop-call.callers.items = omega (arith, c.if-turn-len-2.true, c.len-in-loop-call.ensures) in
    subst (λ x. IsPassOf c.args.list.now.manager.table x.pass) (sym c.index_mut.ensures.value)
    (all_at_rest IsLocal c.args.list.now.manager.table _ w.passes w.resting _ _ (at_read c.loop-call.callers.items c.if-turn-len.turn c.index_mut.result.now low)).of

pub loop-call-preserved-then-turn-len-2 : goal.loop-call-preserved-then-turn-len-2
loop-call-preserved-then-turn-len-2 c =
    let w = c.loop-call.invariant in
    let e = c.play_call.ensures in
    let low : c.if-turn-len.turn < length c.loop-call.callers.items = omega (arith, c.if-turn-len-2.true, c.len-in-loop-call.ensures) in
    record {
      can_next = (tt, tt);
      finite = tt;
      passes = all_still c.args.list.now.manager.table c.loop-call.callers.items c.if-turn-len.turn c.index_mut.result.now c.play_call.new.caller low w.passes e.of
          (subst (λ x. IsSameCaller x.pass c.play_call.new.caller.pass) c.index_mut.ensures.value e.same);
      resting = All-set (IsResting IsLocal) c.loop-call.callers.items c.if-turn-len.turn c.play_call.new.caller e.caller w.resting;
    }
