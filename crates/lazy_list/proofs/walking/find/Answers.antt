use Rattle.std.proofs.Common.{◌≡◌, ◌+◌, Some, [], ◌++◌, sym, refl, ap, ◌∙◌, subst, arith}
use Rattle.record_table.specs.Handles.{view}
use Rattle.set_calls.proofs.Going.{goes_nowhere, goes_then, did_then}
use Rattle.list_calls.specs.Standing.{rank}
use Rattle.list_calls.proofs.Homes.{home_then, root_there}
use Rattle.lazy_list.specs.declared.spots.Landing.TheVariants.{Found}
use Rattle.lazy_list.specs.Walks.{Hops, Finds, starts, found, needs_more}
use Rattle.lazy_list.specs.Knowing.{IsSpot, low_at}
use Rattle.lazy_list.proofs.Steps.{next_from, ends_at}
use Rattle.lazy_list.proofs.walking.find.Goals as goal

pub loop-hops-init : goal.loop-hops-init
loop-hops-init g c = let f = c.args.guard.now in record {
  at_work = c.requires.at_work;
  on = goes_nowhere f;
  within = c.requires.hops;
  before = record { stands = record { there = root_there f c.args.root c.args.key c.requires.home; keyed = tt; home = refl }; below = omega arith };
  walked = (0, [], omega arith, starts, refl);
}

pub hop-landing-requires-clause-home : goal.hop-landing-requires-clause-home
hop-landing-requires-clause-home g c = home_then c.args.guard.now c.loop-hops.guard c.args.root c.args.key c.loop-hops.invariant.on.same c.requires.home

pub hop-landing-requires-clause-fresh : goal.hop-landing-requires-clause-fresh
hop-landing-requires-clause-fresh g c = let on = c.loop-hops.invariant.on in on.answers.front ∙ c.requires.fresh ∙ sym (ap (λ x. x.value.me.0.front) on.same.pass.since)

pub loop-hops-preserved : goal.loop-hops-preserved
loop-hops-preserved g c =
    let f = c.args.guard.now in let h = c.loop-hops.guard in let i = c.hop-landing.new.guard in
    let walked = c.loop-hops.invariant.walked in let did = c.hop-landing.ensures.did in
    let next = next_from i.caller.now.pass c.args.root c.args.key c.loop-hops.before c.in-Ok.node (rank h.caller.now.pass c.loop-hops.before) walked.0 (view i.caller.now.pass).own.updates_seen c.hop-landing.result walked.1 did.0 c.hop-landing.ensures.landing c.in-Ok.ensures walked.3 did.1 in record {
      at_work = c.hop-landing.ensures.at_work;
      on = goes_then f h i c.loop-hops.invariant.on c.hop-landing.ensures.on;
      within = (let t = c.loop-hops-test.true in omega arith);
      before = next.0;
      walked = (walked.0 + 1, walked.1 ++ did.0, (let e = walked.2 in omega arith), next.1, did_then f h i walked.1 did.0 c.loop-hops.invariant.on.same.manager walked.4 did.2);
    }

pub returns-in-Err-clause-on : goal.returns-in-Err-clause-on
returns-in-Err-clause-on g c = goes_then c.args.guard.now c.loop-hops.guard c.hop-landing.new.guard c.loop-hops.invariant.on c.hop-landing.ensures.on

-- the walk ends where the last hop came to
ended : (g : _) (c : goal.In-Err g) → IsSpot c.hop-landing.new.guard.caller.now.pass c.args.root c.args.key c.in-Err.spot × (low_at c.hop-landing.new.guard.caller.now.pass c.in-Err.spot ≡ rank c.loop-hops.guard.caller.now.pass c.loop-hops.before)
    × Hops c.args.key c.loop-hops.before (view c.hop-landing.new.guard.caller.now.pass).own.updates_seen (Found c.in-Err.spot) c.hop-landing.ensures.did.0
ended g c = let h = c.loop-hops.guard in let i = c.hop-landing.new.guard in
    ends_at i.caller.now.pass c.args.root c.args.key c.loop-hops.before c.in-Err.spot (rank h.caller.now.pass c.loop-hops.before) (view i.caller.now.pass).own.updates_seen c.hop-landing.result c.hop-landing.ensures.did.0 c.hop-landing.ensures.landing c.in-Err.ensures c.hop-landing.ensures.did.1

pub returns-in-Err-clause-spot : goal.returns-in-Err-clause-spot
returns-in-Err-clause-spot g c = ((let e = c.loop-hops.invariant.walked.2 in omega arith), (ended g c).0)

pub returns-in-Err-clause-did : goal.returns-in-Err-clause-did
returns-in-Err-clause-did g c =
    let f = c.args.guard.now in let h = c.loop-hops.guard in let i = c.hop-landing.new.guard in let walked = c.loop-hops.invariant.walked in let did = c.hop-landing.ensures.did in let end = ended g c in let seen = (view i.caller.now.pass).own.updates_seen in
    (walked.0 + 1, walked.1 ++ did.0, (let e = walked.2 in omega arith), subst (λ low. Finds c.args.key c.args.root (walked.0 + 1) low (Some c.in-Err.spot) (Some seen) (walked.1 ++ did.0)) (sym end.1) (found walked.3 end.2), did_then f h i walked.1 did.0 c.loop-hops.invariant.on.same.manager walked.4 did.2)

pub returns-clause-did : goal.returns-clause-did
returns-clause-did g c = let walked = c.loop-hops.invariant.walked in (walked.0, walked.1, walked.2, needs_more walked.3, walked.4)
