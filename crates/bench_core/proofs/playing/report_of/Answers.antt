use Rattle.std.proofs.Common.{length, map, refl, sym, ap, ◌∙◌, arith}
use Rattle.set_model.specs.Keys.{size_of, sum_of}
use Rattle.bench_core.specs.Plays.{called, order_of}
use Rattle.bench_core.proofs.PlainRuns.{sum-fits}
use Rattle.bench_core.proofs.PlayOrder.{length-called, lawful-called}
use Rattle.bench_core.proofs.ReportedCallers.{reported, told-lengths}
use Rattle.bench_core.proofs.playing.report_of.Goals as goal

pub pair_up-requires-clause-pairs : goal.pair_up-requires-clause-pairs
pair_up-requires-clause-pairs c =
    told-lengths c.args.workload c.into_lists.ensures.limits c.requires.told ∙ sym (ap (λ lists. map length lists) c.into_lists.ensures.lists)

pub overflow_cast-result : goal.overflow_cast-result
overflow_cast-result c =
    let plan = c.args.workload in
    let limits = c.into_lists.ensures.limits in
    omega (
      arith,
      c.sum.ensures,
      ap sum_of c.requires.keys,
      sum-fits (called (order_of plan.lists)) (omega (arith, length-called plan limits, limits.few_calls)) (lawful-called plan limits),
    )

pub returns : goal.returns
returns c =
    let ensured = c.pair_up.ensures in
    record {
      set = refl;
      reclaimer = refl;
      calls = ensured.calls ∙ c.into_lists.ensures.lists;
      replies = reported c.pair_up.result c.requires.told ensured.replies;
      size = c.len.ensures ∙ ap size_of c.requires.keys;
      sum = c.sum.ensures ∙ ap sum_of c.requires.keys;
      counts = refl;
    }
