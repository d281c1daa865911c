use Rattle.report_text.proofs.WritingLemmas.{Prints-flushed, Prints-fails}
use Rattle.report_text.proofs.printer.put_unless.Goals as goal

pub returns-in-Ok : goal.returns-in-Ok
returns-in-Ok g c = λ before text p. Prints-flushed g.K.Sink.got g.K.Sink.faults before _ _ c.if-failed.false p c.in-Ok.ensures.ok c.in-Ok.ensures.kept

pub returns-in-Err : goal.returns-in-Err
returns-in-Err g c = λ before text p. Prints-fails g.K.Sink.got g.K.Sink.faults before _ _ c.if-failed.false p c.in-Err.ensures.err c.in-Err.ensures.counted
