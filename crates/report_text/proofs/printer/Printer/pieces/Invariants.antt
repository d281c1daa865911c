use Rattle.std.proofs.Common.{length}
use Rattle.report_text.proofs.AddsLemmas.{AddsUpTo}
use Rattle.report_text.proofs.printer.Printer.pieces.Given as goal

abbrev pub invariant-loop-rest : goal.invariant-loop-rest
invariant-loop-rest g l = AddsUpTo g.K.Sink.got g.K.Sink.faults l.fn.self l.self l.text l.rest

abbrev pub decreases-loop-rest : goal.decreases-loop-rest
decreases-loop-rest g l = length l.rest
