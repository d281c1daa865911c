use Rattle.record_table.specs.declared.nodes.Node.TheVariants.{At}
use Rattle.michael_list.specs.declared.spots.Spot.TheVariants.{Present}
use Rattle.michael_list.specs.Knowing.{IsSpot}
use Rattle.list_calls.proofs.Standing.{stands_relinked}
use Rattle.michael_list.proofs.Ends.{is_spot}
use Rattle.list_tests.proofs.interleaved.mark_between.Goals as goal

-- where the walk ended
spot_there : (c : goal.After-at-2-1) → IsSpot c.find.new.guard.caller.now.pass 0 1 (Present c.in-Present.before c.in-Present.at c.in-Present.link)
spot_there c = is_spot c.find.new.guard.caller.now.pass 0 1 c.in-Present.is c.in-Some.ensures.spot.1

pub take_out-taken-requires-clause-before : goal.take_out-taken-requires-clause-before
take_out-taken-requires-clause-before c =
    (stands_relinked c.find.new.guard.caller.now.pass c.mark.new.guard.caller.now.pass c.mark.ensures.same.pass.setup 0 (At c.in-Present.at) c.mark.ensures.keeps c.in-Present.before (spot_there c).0.stands).0.there

pub take_out-taken-requires-clause-gone : goal.take_out-taken-requires-clause-gone
take_out-taken-requires-clause-gone c =
    (stands_relinked c.find.new.guard.caller.now.pass c.mark.new.guard.caller.now.pass c.mark.ensures.same.pass.setup 0 (At c.in-Present.at) c.mark.ensures.keeps (At c.in-Present.at) (spot_there c).1).0.there
