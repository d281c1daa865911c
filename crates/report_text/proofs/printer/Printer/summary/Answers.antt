use Rattle.std.proofs.Common.{append-nil}
use Rattle.report_text.proofs.AddsLemmas.{◌⨟◌}
use Rattle.report_text.proofs.printer.Printer.summary.Goals as goal

pub returns : goal.returns
returns g c =
    let tally = rw c.as_slice.ensures at c.tally.ensures in
    c.trial.ensures ⨟ (tally ⨟ rw append-nil c.size.ensures)
