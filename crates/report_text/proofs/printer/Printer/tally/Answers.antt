use Rattle.report_text.proofs.AddsLemmas.{◌⨟◌}
use Rattle.report_text.proofs.printer.Printer.tally.Goals as goal

pub returns : goal.returns
returns g c =
    let inserted = rw c.yes_in.ensures at c.wide_number.ensures in
    let removed = rw c.yes_in-2.ensures at c.wide_number-2.ensures in
    let found = rw c.yes_in-3.ensures at c.wide_number-3.ensures in
    (c.text.ensures ⨟ inserted) ⨟ (c.text-2.ensures ⨟ removed) ⨟ (c.text-3.ensures ⨟ found) ⨟ c.text-4.ensures
