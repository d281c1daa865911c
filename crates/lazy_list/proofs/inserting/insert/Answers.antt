use Rattle.std.proofs.Common.{[], ◌++◌, refl, arith}
use Rattle.record_table.specs.Handles.{view}
use Rattle.set_calls.proofs.Going.{same_guard, same_guards, did_then}
use Rattle.set_calls.proofs.Answering.{none_then, insertion_since}
use Rattle.lazy_list.specs.Pieces.{none}
use Rattle.lazy_list.proofs.inserting.insert.Goals as goal

pub loop-answer-init : goal.loop-answer-init
loop-answer-init g c = record {
  at_work = c.requires.at_work;
  same = same_guard c.args.guard.now;
  answers = record { answered = refl; front = refl };
  within = omega arith;
  hand = tt;
  did = ([], none, refl);
}

pub loop-answer-smaller : goal.loop-answer-smaller
loop-answer-smaller g c = let more = c.in-Refused.ensures.tells.0 in let within = c.try_insert.ensures.hops in omega arith

pub loop-answer-preserved : goal.loop-answer-preserved
loop-answer-preserved g c =
    let f = c.args.guard.now in let h = c.loop-answer.guard in let i = c.try_insert.new.guard in let inv = c.loop-answer.invariant in record {
      at_work = c.try_insert.ensures.at_work;
      same = same_guards f h i inv.same c.try_insert.ensures.same;
      answers = none_then (view f.caller.now.pass) (view h.caller.now.pass) (view i.caller.now.pass) inv.answers c.in-Refused.ensures.tells.1;
      within = c.try_insert.ensures.hops;
      hand = c.in-Refused.ensures.tells.2;
      did = (inv.did.0 ++ c.in-Refused.ensures.did.0, c.in-Refused.ensures.did.2 inv.did.0 inv.did.1, did_then f h i inv.did.0 c.in-Refused.ensures.did.0 inv.same.manager inv.did.2 c.in-Refused.ensures.did.1);
    }

pub returns-in-Answered-clause-same : goal.returns-in-Answered-clause-same
returns-in-Answered-clause-same g c = same_guards c.args.guard.now c.loop-answer.guard c.try_insert.new.guard c.loop-answer.invariant.same c.try_insert.ensures.same

pub returns-in-Answered-clause-tells : goal.returns-in-Answered-clause-tells
returns-in-Answered-clause-tells g c =
    let f = c.args.guard.now in let h = c.loop-answer.guard in let i = c.try_insert.new.guard in let inv = c.loop-answer.invariant in
    insertion_since (view f.caller.now.pass) (view h.caller.now.pass) (view i.caller.now.pass) c.args.key c.in-Answered.answer inv.same.pass.caller inv.same.pass.setup inv.answers c.in-Answered.ensures.tells

pub returns-in-Answered-clause-did : goal.returns-in-Answered-clause-did
returns-in-Answered-clause-did g c =
    let f = c.args.guard.now in let h = c.loop-answer.guard in let i = c.try_insert.new.guard in let inv = c.loop-answer.invariant in let did = c.in-Answered.ensures.did in
    (inv.did.0 ++ did.0, did.2 inv.did.0 inv.did.1, did_then f h i inv.did.0 did.0 inv.same.manager inv.did.2 did.1)
