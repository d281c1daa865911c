use Rattle.std.proofs.Common.{arith, refl, ap, length, length-append, map}
use Rattle.text_lines.specs.Lines.{lines_text}
use Rattle.text_lines.specs.Calls.{call_text}
use Rattle.workload_text.proofs.Steps.{calls_progress}
use Rattle.workload_text.proofs.progress.Progress.read_calls.Goals as goal

pub returns-clause-progress : goal.returns-clause-progress
returns-clause-progress c = λ text h.
    calls_progress text c.args.bytes.now c.in_ok-count.rest.now c.args.self _ c.in_ok-count.count h c.in_ok-count.ensures.read (omega (arith, c.in_ok-count.ensures.room)) refl refl refl refl refl

pub returns-clause-shorter : goal.returns-clause-shorter
returns-clause-shorter c =
    let read = c.in_ok-count.ensures.read in
    omega (arith, ap length read.text, length-append (lines_text (map call_text read.read)) c.in_ok-count.rest.now)
