use Rattle.std.proofs.Common.{sym, ap, arith}
use Rattle.set_model.specs.declared.calls.Counts.{Counts}
use Rattle.manager.proofs.ChainCounts.{shown_below}
use Rattle.set_runs.specs.Totals.{on_shelves}
use Rattle.set_runs.proofs.totals.with_shelves.Goals as goal

pub returns : goal.returns
returns c =
    let all : Counts = c.args.counts in
    ap (λ n. record all { free = n }) (c.sum_of.ensures all.free (on_shelves c.args.closed.now) (sym (shown_below all.free (omega arith))) c.count_shelved.ensures)
