use Rattle.workload_gen.proofs.Calls.{calls_from-turn}
use Rattle.workload_gen.proofs.making.caller_calls.Goals as goal

pub loop-made-preserved : goal.loop-made-preserved
loop-made-preserved c =
    let call = rw c.key_by-key.ensures at c.call_by.ensures in
    rw (c.in_ok-push.ensures.items, call) (calls_from-turn c.args.plan.now c.args.caller c.loop-made.made c.loop-made.calls.items _ c.loop-made.words _ _ _ _ c.loop-made-test.true
    c.next_word-kind.ensures c.next_word.ensures c.loop-made.invariant)
