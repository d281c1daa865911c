use Rattle.std.proofs.Common.{◌+◌, Some, [], ◌++◌, refl, arith}
use Rattle.record_table.specs.Handles.{view}
use Rattle.set_calls.proofs.Going.{goes_nowhere, goes_then, did_then}
use Rattle.michael_list.specs.declared.spots.Landing.TheVariants.{Found}
use Rattle.michael_list.specs.Walks.{Hops, starts, found, needs_more}
use Rattle.list_calls.specs.Standing.{rank}
use Rattle.michael_list.specs.Knowing.{IsSpot, shown_at}
use Rattle.list_calls.proofs.Homes.{home_then, root_there}
use Rattle.michael_list.proofs.Steps.{at_root, next_from, ends_at}
use Rattle.michael_list.proofs.walking.find.Goals as goal

pub loop-hops-init : goal.loop-hops-init
loop-hops-init g c = let f = c.args.guard.now in record {
  at_work = c.requires.at_work;
  on = goes_nowhere f;
  within = c.requires.hops;
  before = at_root f.caller.now.pass c.args.root c.args.key (root_there f c.args.root c.args.key c.requires.home);
  walked = (0, [], omega arith, starts, refl);
}

pub hop-landing-requires-clause-home : goal.hop-landing-requires-clause-home
hop-landing-requires-clause-home g c = home_then c.args.guard.now c.loop-hops.guard c.args.root c.args.key c.loop-hops.invariant.on.same c.requires.home

pub loop-hops-preserved : goal.loop-hops-preserved
loop-hops-preserved g c =
    let f = c.args.guard.now in let h = c.loop-hops.guard in let i = c.hop-landing.new.guard in
    let on = goes_then f h i c.loop-hops.invariant.on c.hop-landing.ensures.on in
    let walked = c.loop-hops.invariant.walked in let did = c.hop-landing.ensures.did in
    let has = root_there i c.args.root c.args.key (home_then f i c.args.root c.args.key on.same c.requires.home) in
    let next = next_from i.caller.now.pass c.args.root c.args.key has c.loop-hops.before c.in-Ok.node (rank h.caller.now.pass c.loop-hops.before) walked.0 c.hop-landing.result walked.1 did.0 c.hop-landing.ensures.landing c.in-Ok.ensures walked.3 did.1 in record {
      at_work = c.hop-landing.ensures.at_work;
      on = on;
      within = (let t = c.loop-hops-test.true in omega arith);
      before = next.0;
      walked = (walked.0 + 1, walked.1 ++ did.0, (let e = walked.2 in omega arith), next.1, did_then f h i walked.1 did.0 c.loop-hops.invariant.on.same.manager walked.4 did.2);
    }

pub returns-in-Err-clause-on : goal.returns-in-Err-clause-on
returns-in-Err-clause-on g c = goes_then c.args.guard.now c.loop-hops.guard c.hop-landing.new.guard c.loop-hops.invariant.on c.hop-landing.ensures.on

-- the walk ends where the last hop came to
ended : (g : _) (c : goal.In-Err g) → IsSpot c.hop-landing.new.guard.caller.now.pass c.args.root c.args.key c.in-Err.spot × Hops c.args.key c.loop-hops.before (Found c.in-Err.spot) (Some (shown_at (view c.hop-landing.new.guard.caller.now.pass) c.in-Err.spot)) c.hop-landing.ensures.did.0
ended g c =
    let f = c.args.guard.now in let h = c.loop-hops.guard in let i = c.hop-landing.new.guard in
    let on = goes_then f h i c.loop-hops.invariant.on c.hop-landing.ensures.on in
    let has = root_there i c.args.root c.args.key (home_then f i c.args.root c.args.key on.same c.requires.home) in
    ends_at i.caller.now.pass c.args.root c.args.key has c.loop-hops.before c.in-Err.spot (rank h.caller.now.pass c.loop-hops.before) c.hop-landing.result c.hop-landing.ensures.did.0 c.hop-landing.ensures.landing c.in-Err.ensures c.hop-landing.ensures.did.1

pub returns-in-Err-clause-spot : goal.returns-in-Err-clause-spot
returns-in-Err-clause-spot g c = ((let e = c.loop-hops.invariant.walked.2 in omega arith), (ended g c).0)

pub returns-in-Err-clause-did : goal.returns-in-Err-clause-did
returns-in-Err-clause-did g c =
    let f = c.args.guard.now in let h = c.loop-hops.guard in let i = c.hop-landing.new.guard in let walked = c.loop-hops.invariant.walked in let did = c.hop-landing.ensures.did in
    (walked.0 + 1, walked.1 ++ did.0, (let e = walked.2 in omega arith), found walked.3 (ended g c).1, did_then f h i walked.1 did.0 c.loop-hops.invariant.on.same.manager walked.4 did.2)

pub returns-clause-did : goal.returns-clause-did
returns-clause-did g c = let walked = c.loop-hops.invariant.walked in (walked.0, walked.1, walked.2, needs_more walked.3, walked.4)
