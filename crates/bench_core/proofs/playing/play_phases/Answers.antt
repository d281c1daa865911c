use Rattle.std.proofs.Common.{◌+◌, ◌<◌, ◌≤◌, length, get_or, sym, arith, add-one}
use Rattle.std.proofs.lemmas.Option.{slice_get-get_or}
use Rattle.workload_text.specs.Limits.{phase_lines}
use Rattle.bench_core.proofs.PlayOrder.{joined-few, rest-none, rest-turn, rest-whole}
use Rattle.bench_core.proofs.ToldCallers.{RunsTo-end, RunsTo-few, RunsTo-room, RunsTo-same, RunsTo-start, RunsTo-turn}
use Rattle.bench_core.proofs.playing.play_phases.Goals as goal

pub loop-phase-init : goal.loop-phase-init
loop-phase-init g c = record {
  last = omega (arith, c.phases-phase-end.ensures.count);
  runs = RunsTo-same (sym (rest-whole c.args.workload.now.lists)) (RunsTo-start c.requires.empty c.requires.room c.requires.ready);
}

pub play_calls-requires-clause-few_calls : goal.play_calls-requires-clause-few_calls
play_calls-requires-clause-few_calls g c =
    let plan = c.args.workload.now in
    let caller = c.loop-caller.caller in
    let own = get_or c.loop-caller.replies caller c.index-replies-caller.result in
    let within : caller < length plan.lists = omega (arith, c.loop-caller.invariant.last, c.loop-caller-test.true) in
    let there : caller < length c.loop-caller.replies = omega (arith, within, c.loop-caller.invariant.runs.count) in
    let next = rest-turn plan.lists c.loop-phase.phase caller c.calls_in-calls.result.now within c.calls_in-calls.ensures.calls in
    omega (
      arith,
      RunsTo-few plan c.calls_in-calls.ensures.limits own (RunsTo-same next c.loop-caller.invariant.runs) (slice_get-get_or c.loop-caller.replies caller c.index-replies-caller.result there),
      joined-few plan c.calls_in-calls.ensures.limits caller,
    )

pub play_calls-requires-clause-room : goal.play_calls-requires-clause-room
play_calls-requires-clause-room g c =
    let lists = c.args.workload.now.lists in
    let within : c.loop-caller.caller < length lists = omega (arith, c.loop-caller.invariant.last, c.loop-caller-test.true) in
    RunsTo-room (RunsTo-same (rest-turn lists c.loop-phase.phase c.loop-caller.caller c.calls_in-calls.result.now within c.calls_in-calls.ensures.calls) c.loop-caller.invariant.runs)

pub play_calls-requires-clause-room_for_replies : goal.play_calls-requires-clause-room_for_replies
play_calls-requires-clause-room_for_replies g c =
    let plan = c.args.workload.now in
    let caller = c.loop-caller.caller in
    let own = get_or c.loop-caller.replies caller c.index-replies-caller.result in
    let within : caller < length plan.lists = omega (arith, c.loop-caller.invariant.last, c.loop-caller-test.true) in
    let there : caller < length c.loop-caller.replies = omega (arith, within, c.loop-caller.invariant.runs.count) in
    let at = slice_get-get_or c.loop-caller.replies caller c.index-replies-caller.result there in
    let next = rest-turn plan.lists c.loop-phase.phase caller c.calls_in-calls.result.now within c.calls_in-calls.ensures.calls in
    omega (
      arith,
      RunsTo-few plan c.calls_in-calls.ensures.limits own (RunsTo-same next c.loop-caller.invariant.runs) at,
      c.loop-caller.invariant.runs.room_for_replies caller own at,
    )

pub loop-caller-preserved : goal.loop-caller-preserved
loop-caller-preserved g c =
    let lists = c.args.workload.now.lists in
    let caller = c.loop-caller.caller in
    let own = get_or c.loop-caller.replies caller c.index-replies-caller.result in
    let within : caller < length lists = omega (arith, c.loop-caller.invariant.last, c.loop-caller-test.true) in
    let there : caller < length c.loop-caller.replies = omega (arith, within, c.loop-caller.invariant.runs.count) in
    let at = slice_get-get_or c.loop-caller.replies caller c.index-replies-caller.result there in
    let next = rest-turn lists c.loop-phase.phase caller c.calls_in-calls.result.now within c.calls_in-calls.ensures.calls in
    record {
      last = c.loop-caller.invariant.last;
      runs = rw (add-one caller, c.play_calls.ensures.keys, c.play_calls.ensures.same_room)
          (RunsTo-turn own c.play_calls.new.replies (RunsTo-same next c.loop-caller.invariant.runs) at c.play_calls.ensures.replies c.play_calls.ensures.same_capacity);
    }

pub returns-clause-told : goal.returns-clause-told
returns-clause-told g c =
    let lists = c.args.workload.now.lists in
    let past : phase_lines lists + 1 ≤ c.loop-phase.phase = omega (arith, c.loop-phase.invariant.last, c.loop-phase-test.false) in
    RunsTo-end (RunsTo-same (rest-none lists c.loop-phase.phase past) c.loop-phase.invariant.runs)
