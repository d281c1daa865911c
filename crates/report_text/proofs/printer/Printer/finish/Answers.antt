use Rattle.std.proofs.Common.{refl}
use Rattle.report_text.proofs.WritingLemmas.{Wrote-all}
use Rattle.report_text.proofs.printer.Printer.finish.Goals as goal

pub returns-then-put_unless-clause-write_fault : goal.returns-then-put_unless-clause-write_fault
returns-then-put_unless-clause-write_fault g c = λ before text p.
    let end = c.if-put_unless.ensures before text (rw c.as_slice.ensures.value p) in
    ((end.rest, end.wrote), end.counted refl)

pub returns-clause-done : goal.returns-clause-done
returns-clause-done g c = λ before text p.
    let end = c.if-put_unless.ensures before text (rw c.as_slice.ensures.value p) in
    (Wrote-all g.K.Sink.got g.K.Sink.faults before _ end, end.kept refl)
