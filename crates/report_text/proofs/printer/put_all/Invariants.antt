use Rattle.std.proofs.Common.{◌≡◌, length}
use Rattle.report_text.specs.Writing.{WroteUpTo}
use Rattle.report_text.proofs.printer.put_all.Given as goal

abbrev pub invariant-loop-rest : goal.invariant-loop-rest
invariant-loop-rest g l = WroteUpTo g.K.Sink.got l.fn.sink l.sink l.fn.text l.rest × (g.K.Sink.faults l.sink ≡ g.K.Sink.faults l.fn.sink)

abbrev pub decreases-loop-rest : goal.decreases-loop-rest
decreases-loop-rest g l = length l.rest
