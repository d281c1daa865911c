use Rattle.report_text.proofs.AddsLemmas.{AddsUpTo-start, AddsUpTo-turn}
use Rattle.report_text.proofs.ReportLines.{answered_lines-drop}
use Rattle.report_text.proofs.printer.Printer.answers.Goals as goal

pub loop-i-init : goal.loop-i-init
loop-i-init g c = AddsUpTo-start

pub loop-i-preserved : goal.loop-i-preserved
loop-i-preserved g c =
    AddsUpTo-turn c.loop-i.invariant c.answered.ensures (answered_lines-drop c.args.calls.now c.args.replies.now c.loop-i.i _ _ c.loop-i-test.true c.requires)
