use Rattle.record_table.specs.Handles.{view}
use Rattle.set_calls.proofs.placing.place_seen.Given as goal

-- where the last look was
abbrev pub ghost-place : goal.ghost-place
ghost-place g a = (view a.self.now.caller.now.pass).own.updates_seen
