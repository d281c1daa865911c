use Rattle.std.proofs.Common.{◌≡◌, ℕ, ◌-◌, false, refl, sym, ap, subst}
use Rattle.set_model.specs.declared.calls.Call.{Call}
use Rattle.set_model.specs.Machine.{key_of}
use Rattle.record_memory.specs.declared.books.View.{View}
use Rattle.record_table.specs.declared.passes.Pass.{Pass}
use Rattle.record_table.specs.declared.nodes.Node.{Node}
use Rattle.record_table.specs.Handles.{view}
use Rattle.set_calls.specs.Knowing.{HasSeenKey}
use Rattle.set_calls.proofs.Placed.{may_answer, read_seen}
use Rattle.list_calls.specs.Standing.{rank}
use Rattle.lazy_facts.specs.Lazy.{lazy}
use Rattle.lazy_list.specs.Knowing.{HasSeenAtMark}
use Rattle.lazy_list.specs.Places.{place_of}
use Rattle.lazy_list.proofs.Placed.{m, removal_is, seen_there}
use Rattle.lazy_list.proofs.placing.place_at_mark.Goals as goal

-- the call's key was seen to be absent at the computed place
seen_of_call : {S R : Type 0} (p : Pass S R) (node : Node) (key : ℕ) (call : Call) → key_of call ≡ key → HasSeenAtMark p node key → HasSeenKey p (key_of call) false (place_of (view p) (rank p node - 1) key)
seen_of_call p node key call is seen = subst (λ k. HasSeenKey p k false (place_of (view p) (rank p node - 1) key)) (sym is) (seen_there p node key seen)

pub place_computed-requires-clause-started : goal.place_computed-requires-clause-started
place_computed-requires-clause-started g c = (seen_there c.args.guard.now.caller.now.pass c.args.marked.now c.args.key c.requires.marked).started

pub place_computed-requires-clause-allowed : goal.place_computed-requires-clause-allowed
place_computed-requires-clause-allowed g c = let p = c.args.guard.now.caller.now.pass in
    may_answer lazy p c.args.call false false (seen_of_call p c.args.marked.now c.args.key c.args.call c.requires.call.0 c.requires.marked) (λ h. h) c.requires.call.1

pub returns-clause-tells : goal.returns-clause-tells
returns-clause-tells g c = let p = c.args.guard.now.caller.now.pass in
    read_seen lazy p p c.place_computed.new.guard.caller.now.pass c.args.call false false (seen_of_call p c.args.marked.now c.args.key c.args.call c.requires.call.0 c.requires.marked) (λ h. h) c.requires.call.1 refl (record { answered = refl; front = refl }) c.place_computed.ensures.step

pub returns-clause-did : goal.returns-clause-did
returns-clause-did g c = let p = c.args.guard.now.caller.now.pass in (m p c.args.marked.now c.args.key c.requires.marked, removal_is p c.args.marked.now c.args.key c.requires.marked, c.place_computed.ensures.did)

pub returns-clause-start : goal.returns-clause-start
returns-clause-start g c = ap (λ (v : View). v.own.guard) c.place_computed.ensures.step.1

pub returns-clause-seen : goal.returns-clause-seen
returns-clause-seen g c = ap (λ (v : View). v.seen_updates) c.place_computed.ensures.step.1
