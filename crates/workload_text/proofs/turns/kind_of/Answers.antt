use Rattle.std.proofs.Common.{refl}
use Rattle.workload_text.proofs.CallKinds.{call_of_asked, none_asked, none_numbered}
use Rattle.workload_text.proofs.turns.kind_of.Goals as goal

pub returns-in_default : goal.returns-in_default
returns-in_default c = λ seen. let none = none_asked c.args.text.now c.in_default.ensures.none in (refl, none.0, none.1)

pub returns-in-Value : goal.returns-in-Value
returns-in-Value c = λ seen. (refl, call_of_asked c.args.text.now c.in-Some.digits.now c.in-Value.field-0 c.in-Some.ensures.found c.in-Value.ensures.printed c.in-Value.ensures.writes.1)

pub returns-in-NoNumber : goal.returns-in-NoNumber
returns-in-NoNumber c = λ seen.
    let none = none_numbered c.args.text.now c.in-Some.digits.now c.in-Some.ensures.found c.in-NoNumber.ensures.writes in
    (refl, none.0, none.1)
