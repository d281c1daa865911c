use Rattle.std.proofs.Common.{sym}
use Rattle.std.proofs.lemmas.List.{take_rest, take-append-drop}
use Rattle.report_text.proofs.AddsLemmas.{AddsUpTo-start, AddsUpTo-turn}
use Rattle.report_text.proofs.printer.Printer.pieces.Goals as goal

pub loop-rest-init : goal.loop-rest-init
loop-rest-init g c = AddsUpTo-start

pub loop-rest-preserved : goal.loop-rest-preserved
loop-rest-preserved g c =
    rw take_rest (AddsUpTo-turn c.loop-rest.invariant c.take_front-count.ensures.adds (sym (take-append-drop c.take_front-count.result c.loop-rest.rest.now)))
