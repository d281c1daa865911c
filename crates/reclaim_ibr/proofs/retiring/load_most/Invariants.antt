use Rattle.std.proofs.Common.{◌≡◌, length}
use Rattle.record_table.specs.Handles.{view, IsPassOf, IsSamePass}
use Rattle.reclaim_api.specs.Scanning.{LoadsSome}
use Rattle.reclaim_ibr.specs.Retiring.{scan_word}
use Rattle.reclaim_ibr.proofs.retiring.load_most.Given as goal

abbrev pub invariant-loop-n : goal.invariant-loop-n
invariant-loop-n g l = record {
  pass : IsPassOf l.table l.pass;
  same : IsSamePass l.fn.pass l.pass;
  many : length l.ends.items ≡ l.n;
  loaded : LoadsSome scan_word (view l.fn.pass) l.ends.items (view l.pass);
}
