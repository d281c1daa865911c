use Rattle.std.proofs.Common.{◌≡◌}
use Rattle.record_memory.specs.declared.books.Book.{Book}
use Rattle.record_table.specs.Handles.{setup_of, view, IsPassOf, IsSamePass}
use Rattle.record_pieces.specs.Giving.{GivesChains}
use Rattle.manager.specs.Manners.{gives_by}
use Rattle.manager.specs.Callers.{IsWorking}
use Rattle.manager.specs.Giving.{GivesFree}
use Rattle.manager.proofs.giving.give_chains.Given as goal

-- what is given from here on is given after what was given so far
abbrev pub invariant-loop-caller : goal.invariant-loop-caller
invariant-loop-caller g l = record {
  of : IsPassOf l.table l.caller.pass;
  working : IsWorking g.R.Scheme.is_local l.caller;
  pass : IsSamePass l.fn.caller.pass l.caller.pass;
  spare : l.caller.spare ≡ l.fn.caller.spare;
  free : GivesFree (view l.fn.caller.pass) (view l.caller.pass);
  did : (c : Book) → GivesChains g.P.Pool.SHELVES (gives_by g.P.Pool.SHELVES g.P.Pool.busy (setup_of l.table)) l.fn.left (view l.caller.pass).own c
      → GivesChains g.P.Pool.SHELVES (gives_by g.P.Pool.SHELVES g.P.Pool.busy (setup_of l.table)) l.fn.left (view l.fn.caller.pass).own c;
}

abbrev pub decreases-loop-caller : goal.decreases-loop-caller
decreases-loop-caller g l = l.caller.free.count
