use Rattle.report_text.proofs.AddsLemmas.{◌⨟◌}
use Rattle.report_text.proofs.printer.Printer.checked.Goals as goal

pub returns : goal.returns
returns g c =
    let callers = rw c.from.ensures at c.numbered.ensures in
    let calls = rw c.from-2.ensures at c.numbered-2.ensures in
    callers ⨟ (c.text.ensures ⨟ calls) ⨟ c.phases.ensures ⨟ c.text-2.ensures
