-- A front on its way from one pass to another.
use Rattle.std.specs.Prelude.{◌≡◌, List}
use Rattle.set_model.specs.declared.calls.Update.{Update}
use Rattle.record_table.specs.declared.table.Table.{Table}
use Rattle.record_table.specs.declared.meeting.Front.{Front}

-- the updates that it carries
abbrev pub updates_in : Front → List Update
updates_in front = front.seat.me.0.front

-- it comes from a pass of this table
abbrev pub IsFrontOf : {S R : Type 0} → Table S R → Front → Type 0
IsFrontOf t front = front.seat.table_id ≡ t.board.shared.table_id
