use Rattle.std.proofs.Common.{◌≡◌, ◌+◌, length}
use Rattle.record_table.specs.Handles.{setup_of, view, IsPassOf}
use Rattle.record_table.specs.Made.{IsFreshWith, AreFreshFrom}
use Rattle.record_table.proofs.Made.{books_from}
use Rattle.record_table.proofs.table.Table.split_all.Given as goal

-- the passes of the callers below this one are there
abbrev pub invariant-loop-caller : goal.invariant-loop-caller
invariant-loop-caller g l = record {
  is : IsPassOf l.self l.first;
  rest : IsFreshWith (setup_of l.self) g.R.Cover.facts.first 0 (books_from (setup_of l.self) g.R.Cover.facts.first l.caller) (view l.first);
  made : AreFreshFrom l.self g.R.Cover.facts.first 1 l.passes.items;
  many : 1 + length l.passes.items ≡ l.caller;
}
