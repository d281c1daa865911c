use Rattle.std.proofs.Common.{◌≡◌, ◌++◌, map, All, vec_len}
use mathlib.Core.List.{reverse}
use Rattle.record_rule.specs.World.{carries}
use Rattle.record_table.specs.Handles.{view, IsPassOf}
use Rattle.record_table.specs.Closing.{own_book, IsWholePassOf}
use Rattle.record_table.proofs.Closings.{HaveHeard}
use Rattle.manager.specs.Made.{passes_of}
use Rattle.manager.proofs.types.Manager.close.Given as goal

-- the passes of the callers that are left still have to be absorbed
abbrev pub invariant-loop-caller : goal.invariant-loop-caller
invariant-loop-caller g l = record {
  is : IsPassOf l.table l.last;
  rest : All (IsWholePassOf l.table) (passes_of l.callers.items);
  heard : HaveHeard l.table (view l.last) (passes_of l.fn.callers.items) (passes_of l.callers.items);
  all : carries (view l.last) ++ map own_book (reverse (passes_of l.callers.items)) ≡ map own_book (passes_of l.fn.callers.items);
}

abbrev pub decreases-loop-caller : goal.decreases-loop-caller
decreases-loop-caller g l = vec_len l.callers
