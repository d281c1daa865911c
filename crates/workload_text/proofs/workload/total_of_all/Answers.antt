use Rattle.std.proofs.Common.{arith}
use Rattle.workload_text.proofs.TotalLemmas.{total_fits, total_more}
use Rattle.workload_text.proofs.workload.total_of_all.Goals as goal

pub overflow_cast-total : goal.overflow_cast-total
overflow_cast-total c =
    let fits = total_fits c.args.lists.now c.loop-calls.calls-index c.calls-item.result c.loop-calls-test.true c.calls-item.is in
    omega (arith, fits, c.requires, c.len.ensures, c.calls-item.result.ok.0)

pub overflow_add-total : goal.overflow_add-total
overflow_add-total c =
    let fits = total_fits c.args.lists.now c.loop-calls.calls-index c.calls-item.result c.loop-calls-test.true c.calls-item.is in
    omega (arith, fits, c.requires, c.len.ensures, c.calls-item.result.ok.0, c.loop-calls.invariant)

pub loop-calls-preserved : goal.loop-calls-preserved
loop-calls-preserved c =
    omega (arith, total_more c.args.lists.now c.loop-calls.calls-index c.calls-item.result c.loop-calls-test.true c.calls-item.is, c.len.ensures, c.calls-item.result.ok.0, c.loop-calls.invariant)
