use Rattle.std.proofs.Common.{◌-◌}
use Rattle.record_table.specs.Handles.{view}
use Rattle.list_calls.specs.Standing.{rank}
use Rattle.lazy_list.specs.Places.{place_of}
use Rattle.lazy_list.proofs.placing.place_computed.Given as goal

-- the first place that the marked node's key and the sought one allow
abbrev pub ghost-place_by : goal.ghost-place_by
ghost-place_by g a = let p = a.guard.now.caller.now.pass in place_of (view p) (rank p a._marked.now - 1) a._key
