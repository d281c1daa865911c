use Rattle.std.proofs.Common.{refl}
use Rattle.report_text.proofs.AddsLemmas.{Adds-then, Adds-waits}
use Rattle.report_text.proofs.printer.Printer.take_front.Goals as goal

pub returns-clause-adds : goal.returns-clause-adds
returns-clause-adds g c = Adds-then c.make_room.ensures.adds (Adds-waits _ _ _ refl refl c.in-Ok.ensures.ok)
