use Rattle.report_text.proofs.AddsLemmas.{◌⨟◌}
use Rattle.report_text.proofs.printer.Printer.sizes.Goals as goal

pub returns : goal.returns
returns g c =
    let calls = rw c.calls_in.ensures at c.wide_number.ensures in
    c.numbered.ensures ⨟ (c.text.ensures ⨟ calls)
