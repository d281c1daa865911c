use Rattle.record_table.specs.Handles.{IsPassOf, IsSamePass}
use Rattle.table_bench.proofs.draw_all.Given as goal

abbrev pub invariant-records : goal.invariant-records
invariant-records l = IsPassOf l.table l.pass × IsSamePass l.fn.pass l.pass
