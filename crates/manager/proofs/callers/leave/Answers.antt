use Rattle.record_table.specs.Handles.{view}
use Rattle.std.proofs.Common.{ap, get_or, None, ◌∙◌}
use Rattle.reclaim_api.specs.Frames.{in_away}
use Rattle.manager.proofs.MoveCounts.{same_moves, counted_still}
use Rattle.manager.proofs.Stay.{chains_stay}
use Rattle.manager.proofs.callers.leave.Goals as goal

pub returns-clause-caller : goal.returns-clause-caller
returns-clause-caller g c = let a = c.args.caller.now in let e = c.leave.ensures in record {
  outside = e.pass.outside;
  chains = chains_stay _ a.pass c.leave.new.pass a.local c.leave.new.local a.free a.spare e.pass.same.setup c.requires.caller.chains e.local e.rest;
  counts = counted_still (view a.pass) (view c.leave.new.pass) a.moved (λ i. ap (λ m. in_away (get_or m i None)) e.rest.mine) (same_moves _ _ e.rest.moves) c.requires.caller.counts;
  unlocked = e.rest.locks ∙ c.requires.unlocked;
}
