use Rattle.std.proofs.Common.{◌<◌, ◌-◌, [], ◌++◌, refl, sym, subst, arith}
use Rattle.record_memory.specs.declared.books.Setup.{Setup}
use Rattle.record_table.specs.Handles.{view, setup_of}
use Rattle.set_calls.proofs.Going.{did_then, same_guard, same_guards}
use Rattle.set_calls.proofs.Answering.{none_then, removal_since}
use Rattle.list_calls.specs.Standing.{IsHome}
use Rattle.michael_list.specs.Pieces.{none}
use Rattle.michael_list.proofs.removing.remove.Goals as goal

pub tries-init : goal.tries-init
tries-init g c = (c.requires.at_work, same_guard c.args.guard.now, record { answered = refl; front = refl }, omega arith, ([], none, refl))

pub try_remove-requires-clause-home : goal.try_remove-requires-clause-home
try_remove-requires-clause-home g c = let same = sym c.tries.invariant.1.manager in subst (λ (k : Setup). IsHome k c.args.root c.args.key) (λ k. setup_of (same k).table) c.requires.home

pub tries-smaller : goal.tries-smaller
tries-smaller g c = let more : c.args.budget - c.try_remove.new.hops < c.args.budget - c.tries.hops = (let l = c.in_default.ensures.tells.0 in let h = c.try_remove.ensures.hops in omega arith) in more

pub tries-preserved : goal.tries-preserved
tries-preserved g c = let f = c.args.guard.now in let h = c.tries.guard in let i = c.try_remove.new.guard in let at = c.tries.invariant in let did = c.in_default.ensures.did in (
  c.try_remove.ensures.at_work,
  same_guards f h i at.1 c.try_remove.ensures.same,
  none_then (view f.caller.now.pass) (view h.caller.now.pass) (view i.caller.now.pass) at.2 c.in_default.ensures.tells.1,
  c.try_remove.ensures.hops,
  (at.4.0 ++ did.0, did.2 at.4.0 at.4.1, did_then f h i at.4.0 did.0 at.1.manager at.4.2 did.1),
)

pub returns-in-Some-clause-same : goal.returns-in-Some-clause-same
returns-in-Some-clause-same g c = same_guards c.args.guard.now c.tries.guard c.try_remove.new.guard c.tries.invariant.1 c.try_remove.ensures.same

pub returns-in-Some-clause-tells : goal.returns-in-Some-clause-tells
returns-in-Some-clause-tells g c = let at = c.tries.invariant in removal_since (view c.args.guard.now.caller.now.pass) (view c.tries.guard.caller.now.pass) (view c.try_remove.new.guard.caller.now.pass) c.args.key c.in-Some.answer
    at.1.pass.caller at.1.pass.setup at.2 c.in-Some.ensures.tells

pub returns-in-Some-clause-did : goal.returns-in-Some-clause-did
returns-in-Some-clause-did g c = let f = c.args.guard.now in let h = c.tries.guard in let i = c.try_remove.new.guard in let at = c.tries.invariant in let did = c.in-Some.ensures.did in
    (at.4.0 ++ did.0, did.2 at.4.0 at.4.1, did_then f h i at.4.0 did.0 at.1.manager at.4.2 did.1)
