use Rattle.std.proofs.Common.{◌∙◌, add-one, drop-cons, arith}
use Rattle.set_model.specs.declared.calls.Call.TheVariants.{Insert}
use Rattle.bench_core.proofs.PlainRuns.{PlaysTo-turn}
use Rattle.bench_core.proofs.playing.play_calls.Goals as goal

pub loop-call-preserved : goal.loop-call-preserved
loop-call-preserved g c =
    let i = c.loop-call.call-index in
    let items = rw c.unwrap.ensures at c.push.ensures.items in
    let pushed = rw c.unwrap.ensures at c.push.ensures.len in
    let plays = rw (drop-cons c.args.calls.now i (Insert 0) c.loop-call-test.true) at c.loop-call.invariant.plays in
    record {
      plays = rw (add-one i, c.apply.ensures.keys, c.apply.ensures.room, items, c.from.ensures, c.apply.ensures.answer) (PlaysTo-turn plays);
      room = c.apply.ensures.room ∙ c.loop-call.invariant.room;
      count = omega (arith, pushed, c.loop-call.invariant.count);
      room_for_replies = omega (arith, c.push.ensures.capacity, c.loop-call.invariant.room_for_replies);
      same_capacity = omega (arith, c.push.ensures.capacity, c.loop-call.invariant.same_capacity);
    }
