use Rattle.std.proofs.Common.{[], refl}
use Rattle.list_calls.proofs.Records.{has_own, took_one}
use Rattle.list_calls.proofs.taking.take_record.Goals as goal

pub returns-in-Some-clause-did : goal.returns-in-Some-clause-did
returns-in-Some-clause-did g c = ([], has_own c.in-Some.own c.args.hand c.in-Some.is, refl)

pub returns-in-None-clause-did : goal.returns-in-None-clause-did
returns-in-None-clause-did g c = took_one c.args.guard.now c.fresh.new.self c.args.hand c.fresh.result c.in-None.is c.fresh.ensures.did
