use Rattle.record_rule.specs.Links.{note_in}
use Rattle.record_table.specs.Handles.{view}
use Rattle.set_calls.proofs.placing.place_reached.Given as goal

-- where the record was reached
abbrev pub ghost-place_by : goal.ghost-place_by
ghost-place_by g a = (note_in (view a.guard.now.caller.now.pass).own.notes a._held.now.place).reached_at
