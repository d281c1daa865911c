use Rattle.std.proofs.Common.{[], refl, Some, None, arith}
use Rattle.record_table.specs.Handles.{view}
use Rattle.set_calls.proofs.Going.{same_guard, same_guards}
use Rattle.set_calls.proofs.Answering.{none_then}
use Rattle.one_key_set.specs.Pieces.{Removes, none}
use Rattle.one_key_set.proofs.Doing.{failed_again, answered_then, failed_all}
use Rattle.one_key_set.proofs.calls.remove.Goals as goal

pub loop-left-init : goal.loop-left-init
loop-left-init g c = record { at_work = c.requires.at_work; same = same_guard c.args.guard.now; answers = record { answered = refl; front = refl }; did = (0, [], omega arith, none, refl) }

pub loop-left-preserved : goal.loop-left-preserved
loop-left-preserved g c = let f = c.args.guard.now in let h = c.loop-left.guard in let i = c.try_remove.new.guard in let inv = c.loop-left.invariant in let did = c.in_default.ensures.did in record {
  at_work = c.try_remove.ensures.at_work;
  same = same_guards f h i inv.same c.try_remove.ensures.same;
  answers = none_then (view f.caller.now.pass) (view h.caller.now.pass) (view i.caller.now.pass) inv.answers c.in_default.ensures.tells;
  did = failed_again f h i (Removes c.args.key None) inv.did.0 c.loop-left.left _ c.args.tries inv.did.1 did.0 (omega arith) inv.same.manager inv.did.2 inv.did.3 inv.did.4 did.1 did.2;
}

pub returns-clause-did : goal.returns-clause-did
returns-clause-did g c = let f = c.args.guard.now in let h = c.loop-left.guard in let inv = c.loop-left.invariant in
    failed_all f h (Removes c.args.key) None inv.did.0 c.loop-left.left c.args.tries inv.did.1 (omega arith) inv.did.2 inv.did.3 inv.did.4

pub returns-in-Some-clause-did : goal.returns-in-Some-clause-did
returns-in-Some-clause-did g c = let f = c.args.guard.now in let h = c.loop-left.guard in let i = c.try_remove.new.guard in let inv = c.loop-left.invariant in let did = c.in-Some.ensures.did in
    answered_then f h i (Removes c.args.key) None (Some c.in-Some.removed) inv.did.0 c.loop-left.left c.args.tries inv.did.1 did.0 (omega arith) inv.same.manager inv.did.2 inv.did.3 inv.did.4 (λ e. let no : ⊥ = cc in no) did.1 did.2
