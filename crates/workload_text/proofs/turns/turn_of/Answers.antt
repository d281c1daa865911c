use Rattle.std.proofs.Common.{arith}
use Rattle.workload_text.proofs.CallKinds.{no_turn}
use Rattle.workload_text.proofs.turns.turn_of.Goals as goal

pub returns-then-caller-from-clause-none : goal.returns-then-caller-from-clause-none
returns-then-caller-from-clause-none c =
    no_turn c.args.seen c.args.text.now c.in_ok-caller.caller c.requires (omega (arith, c.in_ok-caller.ensures.found.0)) c.in_ok-caller.ensures.found.1 (λ e lt. omega (arith, e, c.if-caller-from.true))
