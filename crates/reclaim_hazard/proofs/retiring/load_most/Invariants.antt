use Rattle.std.proofs.Common.{◌≡◌, length}
use Rattle.record_table.specs.Handles.{view, IsPassOf, IsSamePass}
use Rattle.reclaim_hazard.specs.Steps.{HasLoadedWords}
use Rattle.reclaim_hazard.proofs.retiring.load_most.Given as goal

abbrev pub invariant-loop-n : goal.invariant-loop-n
invariant-loop-n g l = record {
  pass : IsPassOf l.table l.pass;
  same : IsSamePass l.fn.pass l.pass;
  many : length l.words.items ≡ l.n;
  loaded : HasLoadedWords (view l.fn.pass) l.words.items (view l.pass);
}
