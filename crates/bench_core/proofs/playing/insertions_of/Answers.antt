use Rattle.std.proofs.Common.{◌≡◌, ◌<◌, [], length, get_or, ap, arith}
use Rattle.std.proofs.lemmas.List.{length-map}
use Rattle.std.proofs.lemmas.List.Sums.{sum_by-take-le, sum_by_more, sum_by_more_le}
use Rattle.std.proofs.lemmas.Option.{get_or_from_slice_get}
use Rattle.set_model.specs.Machine.{insertions_in}
use Rattle.workload_text.specs.Limits.{calls_of_all, joined}
use Rattle.bench_core.proofs.PlayOrder.{insertions-few}
use Rattle.bench_core.proofs.playing.insertions_of.Goals as goal

pub overflow_add-total : goal.overflow_add-total
overflow_add-total c =
    let lists = joined c.args.workload.now.lists in
    let caller = c.loop-caller.caller in
    let within : caller < length lists = omega (arith, length-map c.args.workload.now.lists calls_of_all, c.loop-caller.invariant.last, c.loop-caller-test.true) in
    let own : get_or lists caller [] ≡ c.calls_of.result.now = get_or_from_slice_get lists caller c.calls_of.result.now [] c.calls_of.ensures.calls in
    omega (
      arith,
      c.loop-caller.invariant.counted,
      c.insertions_in-total.ensures,
      ap insertions_in own,
      sum_by_more_le insertions_in lists caller [] within,
      insertions-few c.args.workload.now c.calls_of.ensures.limits,
    )

pub loop-caller-preserved : goal.loop-caller-preserved
loop-caller-preserved c =
    let lists = joined c.args.workload.now.lists in
    let caller = c.loop-caller.caller in
    let within : caller < length lists = omega (arith, length-map c.args.workload.now.lists calls_of_all, c.loop-caller.invariant.last, c.loop-caller-test.true) in
    let own : get_or lists caller [] ≡ c.calls_of.result.now = get_or_from_slice_get lists caller c.calls_of.result.now [] c.calls_of.ensures.calls in
    record {
      last = c.loop-caller.invariant.last;
      counted = omega (arith, c.loop-caller.invariant.counted, c.insertions_in-total.ensures, ap insertions_in own, sum_by_more insertions_in lists caller [] within);
    }

pub returns-clause-few : goal.returns-clause-few
returns-clause-few c =
    omega (
      arith,
      c.loop-caller.invariant.counted,
      sum_by-take-le insertions_in (joined c.args.workload.now.lists) c.loop-caller.caller,
      insertions-few c.args.workload.now c.callers-caller-end.ensures.limits,
    )
