use Rattle.std.proofs.Common.{ap, ◌∙◌, ◌++◌}
use Rattle.record_table.proofs.Repeated.{rows_more}
use Rattle.record_table.proofs.opening.push_rows.Goals as goal

pub loop-done-preserved : goal.loop-done-preserved
loop-done-preserved c = c.in_ok-extend_from_slice.ensures.items ∙ ap (λ l. l ++ c.args.row.now) c.loop-done.invariant ∙ rows_more c.loop-done._done c.args.row.now c.args.words.now.items
