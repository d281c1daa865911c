use Rattle.std.proofs.Common.{drop}
use Rattle.text_lines.specs.Lines.{lines_text}
use Rattle.report_text.specs.ReportText.{callers_lines}
use Rattle.report_text.proofs.AddsLemmas.{AddsUpTo}
use Rattle.report_text.proofs.printer.Printer.callers.Given as goal

abbrev pub invariant-loop-i : goal.invariant-loop-i
invariant-loop-i g l =
    AddsUpTo g.K.Sink.got g.K.Sink.faults l.fn.self l.self (lines_text (callers_lines 0 l.callers)) (lines_text (callers_lines l.i (drop l.i l.callers)))
