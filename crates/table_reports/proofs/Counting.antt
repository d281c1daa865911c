-- The printed counts are those of the closed table.
use Rattle.std.proofs.Common.{◌∙◌, arith}
use Rattle.set_model.specs.declared.calls.Counts.{Counts}
use Rattle.record_table.specs.Closing.{closed_books}
use Rattle.record_table.specs.declared.closing.Closed.{Closed}
use Rattle.run_facts.specs.Counts.{ShowsMoves, AreSumsOf}
use Rattle.set_runs.specs.Totals.{on_shelves}
use Rattle.table_reports.specs.Reports.{TellsCounts}

pub tells_counts : (closed : Closed) (n : Counts) → ShowsMoves closed → AreSumsOf n (closed_books closed) (on_shelves closed) → TellsCounts closed n
tells_counts closed n fit sums = record {
  records = fit.records;
  taken_out = fit.taken_out;
  lists = fit.lists;
  drawn = omega (arith, fit.drawn, sums.drawn);
  reused = sums.reused ∙ fit.reused;
  retired = omega (arith, fit.retired, sums.retired);
  freed = omega (arith, fit.freed, sums.freed, sums.reused, sums.free, sums.spent);
  limbo = omega (arith, fit.limbo, sums.limbo, sums.freed, sums.retired);
  places = omega (arith, fit.places, sums.limbo, sums.free, sums.spare, sums.spent, sums.drawn);
}
