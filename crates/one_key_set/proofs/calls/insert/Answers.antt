use Rattle.std.proofs.Common.{[], refl, arith}
use Rattle.record_table.specs.Handles.{view}
use Rattle.set_calls.proofs.Going.{same_guard, same_guards}
use Rattle.set_calls.proofs.Answering.{none_then}
use Rattle.one_key_set.specs.declared.answers.Added.TheVariants.{Again, Full, Done}
use Rattle.one_key_set.specs.Pieces.{Inserts, none}
use Rattle.one_key_set.proofs.Doing.{failed_again, answered_then, failed_all}
use Rattle.one_key_set.proofs.calls.insert.Goals as goal

pub loop-left-init : goal.loop-left-init
loop-left-init g c = record { at_work = c.requires.at_work; same = same_guard c.args.guard.now; answers = record { answered = refl; front = refl }; did = (0, [], omega arith, none, refl) }

pub loop-left-preserved : goal.loop-left-preserved
loop-left-preserved g c = let f = c.args.guard.now in let h = c.loop-left.guard in let i = c.try_insert.new.guard in let inv = c.loop-left.invariant in let did = c.in-Again.ensures.did in record {
  at_work = c.try_insert.ensures.at_work;
  same = same_guards f h i inv.same c.try_insert.ensures.same;
  answers = none_then (view f.caller.now.pass) (view h.caller.now.pass) (view i.caller.now.pass) inv.answers c.in-Again.ensures.tells;
  did = failed_again f h i (Inserts c.args.key Again) inv.did.0 c.loop-left.left _ c.args.tries inv.did.1 did.0 (omega arith) inv.same.manager inv.did.2 inv.did.3 inv.did.4 did.1 did.2;
}

pub returns-clause-did : goal.returns-clause-did
returns-clause-did g c = let f = c.args.guard.now in let h = c.loop-left.guard in let inv = c.loop-left.invariant in
    failed_all f h (Inserts c.args.key) Again inv.did.0 c.loop-left.left c.args.tries inv.did.1 (omega arith) inv.did.2 inv.did.3 inv.did.4

pub returns-in-Full-clause-did : goal.returns-in-Full-clause-did
returns-in-Full-clause-did g c = let f = c.args.guard.now in let h = c.loop-left.guard in let i = c.try_insert.new.guard in let inv = c.loop-left.invariant in let did = c.in-Full.ensures.did in
    answered_then f h i (Inserts c.args.key) Again (Full c.in-Full.found) inv.did.0 c.loop-left.left c.args.tries inv.did.1 did.0 (omega arith) inv.same.manager inv.did.2 inv.did.3 inv.did.4 (λ e. let no : ⊥ = cc in no) did.1 did.2

pub returns-in-Done-clause-did : goal.returns-in-Done-clause-did
returns-in-Done-clause-did g c = let f = c.args.guard.now in let h = c.loop-left.guard in let i = c.try_insert.new.guard in let inv = c.loop-left.invariant in let did = c.in-Done.ensures.did in
    answered_then f h i (Inserts c.args.key) Again (Done c.in-Done.added) inv.did.0 c.loop-left.left c.args.tries inv.did.1 did.0 (omega arith) inv.same.manager inv.did.2 inv.did.3 inv.did.4 (λ e. let no : ⊥ = cc in no) did.1 did.2
