use Rattle.std.proofs.Common.{◌≡◌, ◌++◌, map, All, vec_len}
use mathlib.Core.List.{reverse}
use Rattle.record_rule.specs.World.{carries}
use Rattle.record_table.specs.Handles.{view, IsPassOf}
use Rattle.record_table.specs.Closing.{own_book, IsWholePassOf}
use Rattle.record_table.proofs.Closings.{HaveHeard}
use Rattle.record_table.proofs.table.Table.close.Given as goal

-- the passes that are left still have to be absorbed
abbrev pub invariant-loop-pass : goal.invariant-loop-pass
invariant-loop-pass g l = record {
  is : IsPassOf l.self l.last;
  rest : All (IsWholePassOf l.self) l.passes.items;
  heard : HaveHeard l.self (view l.last) l.fn.passes.items l.passes.items;
  all : carries (view l.last) ++ map own_book (reverse l.passes.items) ≡ map own_book l.fn.passes.items;
}

abbrev pub decreases-loop-pass : goal.decreases-loop-pass
decreases-loop-pass g l = vec_len l.passes
