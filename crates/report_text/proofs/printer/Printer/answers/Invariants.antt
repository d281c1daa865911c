use Rattle.std.proofs.Common.{drop}
use Rattle.text_lines.specs.Lines.{lines_text}
use Rattle.report_text.specs.ReportText.{answered_lines}
use Rattle.report_text.proofs.AddsLemmas.{AddsUpTo}
use Rattle.report_text.proofs.printer.Printer.answers.Given as goal

abbrev pub invariant-loop-i : goal.invariant-loop-i
invariant-loop-i g l =
    AddsUpTo g.K.Sink.got g.K.Sink.faults l.fn.self l.self (lines_text (answered_lines l.calls l.replies)) (lines_text (answered_lines (drop l.i l.calls) (drop l.i l.replies)))
