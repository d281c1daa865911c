use Rattle.one_key_set.proofs.Doing.{took_out, was_late}
use Rattle.one_key_set.proofs.looking.take_out.Goals as goal

pub returns-in-Ok-clause-did : goal.returns-in-Ok-clause-did
returns-in-Ok-clause-did g c = took_out c.args.guard.now c.unlink.new.self c.retire.new.self c.args.key c.args.gone c.to.result c.in-Ok.taken c.to.ensures.link c.in-Ok.ensures.step.0 c.in-Ok.ensures.same_reference.1 c.in-Ok.ensures.did c.retire.ensures.did

pub returns-in-Err-clause-did : goal.returns-in-Err-clause-did
returns-in-Err-clause-did g c = was_late c.args.guard.now c.unlink.new.self c.args.key c.args.gone c.to.result c.in-Err.field-0.link c.to.ensures.link c.in-Err.ensures.did
