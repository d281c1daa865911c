use Rattle.std.proofs.Common.{[], refl, ap, sym, ◌∙◌, append-nil}
use Rattle.report_text.proofs.AddsLemmas.{Adds-waits}
use Rattle.report_text.proofs.printer.Printer.waits.Goals as goal

pub returns-in-Ok-clause-waits : goal.returns-in-Ok-clause-waits
returns-in-Ok-clause-waits g c = Adds-waits _ _ _ refl refl c.in-Ok.ensures.ok

pub returns-in-Err-clause-no_room : goal.returns-in-Err-clause-no_room
returns-in-Err-clause-no_room g c = Adds-waits _ _ [] refl refl (ap (λ v. v.items) c.in-Err.ensures.err ∙ sym (append-nil _))
