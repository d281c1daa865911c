use Rattle.std.proofs.Common.{◌≡◌}
use Rattle.record_rule.specs.HandingOut.{stores_from, fresh_row}
use Rattle.record_table.specs.Handles.{view, IsSamePass}
use Rattle.record_table.proofs.table.Table.hand_out.Given as goal

-- the first words of the row are stored
abbrev pub invariant-loop-field : goal.invariant-loop-field
invariant-loop-field g l = record {
  same : IsSamePass l.fn.pass l.pass;
  stored : view l.pass ≡ stores_from (view l.fn.pass) l.r-inside.index (fresh_row l.r-inside.generation l.birth) l.field;
}
