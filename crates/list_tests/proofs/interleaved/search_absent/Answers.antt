use Rattle.std.proofs.Common.{false}
use Rattle.set_model.specs.declared.calls.Call.TheVariants.{Search}
use Rattle.list_facts.specs.Michael.{michael}
use Rattle.set_calls.specs.Knowing.{search_}
use Rattle.set_calls.proofs.Placed.{may_answer}
use Rattle.michael_list.proofs.Ends.{is_spot}
use Rattle.list_tests.proofs.interleaved.search_absent.Goals as goal

pub place_absent-requires-clause-allowed : goal.place_absent-requires-clause-allowed
place_absent-requires-clause-allowed c = let p = c.find.new.guard.caller.now.pass in
    may_answer michael p (Search 1) false false (is_spot p 0 1 c.in-Absent.is c.in-Some.ensures.spot.1).2 (λ h. h) (search_ 1 false)
