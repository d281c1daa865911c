use Rattle.report_text.proofs.AddsLemmas.{◌⨟◌}
use Rattle.report_text.proofs.printer.Printer.records.Goals as goal

pub returns : goal.returns
returns g c =
    c.numbered.ensures ⨟ c.numbered-2.ensures ⨟ c.numbered-3.ensures ⨟ c.numbered-4.ensures
    ⨟ c.numbered-5.ensures ⨟ c.numbered-6.ensures ⨟ c.numbered-7.ensures ⨟ c.numbered-8.ensures ⨟ c.text.ensures
