use Rattle.std.proofs.Common.{arith}
use Rattle.command_words.specs.Words.{texts_of}
use Rattle.command_words.proofs.Chosen.{calls_few}
use Rattle.command_words.proofs.reading.workload_of.Goals as goal

pub returns-in_err-calls : goal.returns-in_err-calls
returns-in_err-calls c =
    rw c.from_residual-in_err-calls.ensures (λ chosen same made. c.in_err-calls.ensures chosen.calls (omega arith)
    (omega (arith, c.from.ensures, calls_few (texts_of c.args.words.now) c.requires c.in_ok-callers.field-0 chosen c.in_ok-callers.ensures.1 c.in_ok-callers.ensures.2 c.in_ok-callers.ensures.0 made)) made.calls)
