use Rattle.record_table.specs.Handles.{view}
use Rattle.std.proofs.Common.{ap, get_or, None}
use Rattle.reclaim_api.specs.Frames.{in_away}
use Rattle.manager.proofs.MoveCounts.{same_moves, counted_still}
use Rattle.manager.proofs.Stay.{chains_stay}
use Rattle.manager.proofs.following.reach_frozen.Goals as goal

pub returns-clause-caller : goal.returns-clause-caller
returns-clause-caller g c = let a = c.args.caller.now in let e = c.follow.ensures in record {
  inside = e.inside;
  chains = chains_stay _ a.pass c.follow.new.pass a.local a.local a.free a.spare e.pass.setup c.requires.caller.chains e.local e.rest;
  counts = counted_still (view a.pass) (view c.follow.new.pass) a.moved (λ i. ap (λ m. in_away (get_or m i None)) e.rest.mine) (same_moves _ _ e.rest.moves) c.requires.caller.counts;
}
