use Rattle.std.proofs.Common.{[], ◌∷◌, append-nil}
use Rattle.std.proofs.lemmas.List.Concat.{flat_map-append}
use Rattle.text_lines.specs.Lines.{line}
use Rattle.report_text.specs.ReportText.{callers_lines, size_text, records_text}
use Rattle.report_text.proofs.AddsLemmas.{◌⨟◌}
use Rattle.report_text.proofs.printer.Printer.report.Goals as goal

pub returns : goal.returns
returns g c =
    let report = c.args.report.now in
    let callers = rw c.as_slice.ensures at c.callers.ensures in
    c.head.ensures ⨟ rw (flat_map-append line (callers_lines 0 report.callers) (size_text report ∷ records_text report.counts ∷ [])) (callers ⨟ (c.size.ensures ⨟ rw append-nil c.records.ensures))
