use Rattle.report_text.proofs.AddsLemmas.{AddsUpTo-start, AddsUpTo-turn}
use Rattle.report_text.proofs.ReportLines.{callers_lines-drop}
use Rattle.report_text.proofs.printer.Printer.callers.Goals as goal

pub loop-i-init : goal.loop-i-init
loop-i-init g c = AddsUpTo-start

pub loop-i-preserved : goal.loop-i-preserved
loop-i-preserved g c =
    AddsUpTo-turn c.loop-i.invariant c.played.ensures (callers_lines-drop c.args.callers.now c.loop-i.i c.index-callers-i.result c.loop-i-test.true c.index-callers-i.is)
