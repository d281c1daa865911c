-- A told step leaves the pass what it was but for what it tells.
use Rattle.std.proofs.Common.{◌≡◌}
use Rattle.record_table.specs.declared.passes.Pass.{Pass}
use Rattle.record_table.specs.Handles.{view, IsSameView, IsSamePass}

pub same_pass : {S R : Type 0} (old new : Pass S R) → new.seat.table_id ≡ old.seat.table_id → new.seat.id ≡ old.seat.id → IsSameView (view old) (view new) → new.since ≡ old.since → new.inside ≡ old.inside → IsSamePass old new
same_pass old new table seat s since inside = record { table = table; seat = seat; caller = s.caller; setup = s.setup; present = s.present; others = s.others; since = since; inside = inside }
