use Rattle.std.proofs.Common.{◌+◌, ◌*◌, length, refl, sym}
use Rattle.key_sums.proofs.ClosedBalance.{closed_balance}
use Rattle.list_facts.proofs.ListEnds.{michael_lists}
use Rattle.list_facts.specs.Michael.{michael}
use Rattle.michael_hash.proofs.Hands.{leaves_none_in_hand}
use Rattle.michael_hash.specs.Pieces.{MakesPiece}
use Rattle.listed.specs.Vectors.{items_of}
use Rattle.paired_replies.specs.Pairs.{replies_to}
use Rattle.hash_runs.specs.HashRuns.{IsRunUnder, hash_setup, manner_of}
use Rattle.run_facts.proofs.Counts.{counts_fit}
use Rattle.run_facts.proofs.NeverFull.{never_full}
use Rattle.run_facts.proofs.SetRuns.{run_full}
use Rattle.run_facts.proofs.Totals.{counts_exact}
use Rattle.table_reports.proofs.AddingUp.{replies_add_up}
use Rattle.table_reports.proofs.Counting.{tells_counts}
use Rattle.table_reports.proofs.OneHistory.{one_history}
use Rattle.table_reports.proofs.Pairs.{all_paired}
use Rattle.bench_core.specs.Tables.{IsHashRun, all_insertions, records_for}
use Rattle.bench_core.proofs.Enough.{enough_records}
use Rattle.bench_core.proofs.tables.play_hash.Goals as goal

pub report_table-report-requires-clause-pairs : goal.report_table-report-requires-clause-pairs
report_table-report-requires-clause-pairs g c =
    let lists = c.args.workload.lists in
    let records = c.records_for-records.result in
    let played = c.in_ok-played.played in
    let r = g.R.Scheme in
    let m = manner_of r.enters r.leaves r.bears r.reaches r.puts_away in
    all_paired michael g.R.Cover.facts (MakesPiece m) (2 * records + 64) (hash_setup g.R.Cover.facts records c.args.chosen.buckets (length lists)) lists (items_of played.replies.items) played.counts played.closed c.in_ok-played.ensures

pub returns-clause-played : goal.returns-clause-played
returns-clause-played g c =
    let lists = c.args.workload.lists in
    let chosen = c.args.chosen in
    let told = c.report_table-report.ensures in
    let report = c.report_table-report.result.report in
    let closed = c.report_table-report.result.closed in
    let records = records_for chosen (all_insertions lists) in
    let facts = g.R.Cover.facts in
    let r = g.R.Scheme in
    let m = manner_of r.enters r.leaves r.bears r.reaches r.puts_away in
    let setup = hash_setup facts records chosen.buckets (length lists) in
    let run : IsRunUnder facts m records chosen.buckets lists (replies_to report.callers) report.counts closed =
    rw (sym c.records_for-records.ensures, told.replies, told.counts, told.closed) c.in_ok-played.ensures in
    let history = one_history michael facts (MakesPiece m) (2 * records + 64) setup lists report.callers report.counts closed run told.calls (run.fits.whole.unhelped (λ helped. helped)) in
    let hash : IsHashRun facts m chosen lists report closed = record {
      played = run;
      history = history;
      keys = told.keys;
      counts = tells_counts closed report.counts (counts_fit run (leaves_none_in_hand m setup) michael_lists) (counts_exact run);
      adds_up = replies_add_up closed report (closed_balance michael_lists closed run.fits) told.keys history;
      caused = run_full run;
      enough = λ has. never_full run (c.show_sparing.ensures setup) refl (enough_records chosen c.args.workload c.requires.set c.requires.playable.few_buckets c.callers.ensures.limits has);
    } in
    (closed, refl, hash)
