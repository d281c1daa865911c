use Rattle.report_text.proofs.AddsLemmas.{◌⨟◌}
use Rattle.report_text.proofs.printer.Printer.head.Goals as goal

pub returns : goal.returns
returns g c =
    let set = rw c.set_word.ensures at c.text-2.ensures in
    let reclaimer = rw c.reclaimer_word.ensures at c.text-4.ensures in
    let sizes = rw c.as_slice.ensures at c.sizes.ensures in
    (c.text.ensures ⨟ set) ⨟ (c.text-3.ensures ⨟ reclaimer) ⨟ (c.text-5.ensures ⨟ sizes) ⨟ c.text-6.ensures
