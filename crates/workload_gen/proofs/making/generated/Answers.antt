use Rattle.std.proofs.Common.{◌∷◌, []}
use Rattle.std.proofs.lemmas.List.{map-append}
use Rattle.workload_gen.proofs.Calls.{callers_from-turn}
use Rattle.workload_gen.proofs.making.generated.Goals as goal

pub loop-caller-preserved : goal.loop-caller-preserved
loop-caller-preserved c =
    let lists = c.loop-caller.lists.items in
    let calls = c.in_ok-caller_calls.field-0 in
    rw (c.in_ok-push.ensures.items, map-append (λ vec. vec.items) lists (calls ∷ []), c.in_ok-caller_calls.ensures)
    (callers_from-turn c.args.plan.now c.loop-caller.caller _ _ c.loop-caller-test.true c.loop-caller.invariant)
