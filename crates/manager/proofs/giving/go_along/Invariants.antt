use Rattle.std.proofs.Common.{◌≡◌, ℕ, List, length, slice_index_or}
use Rattle.row_words.specs.Refs.{RefParts}
use Rattle.record_rule.specs.Makes.{Makes}
use Rattle.record_table.specs.Handles.{view, IsPassOf, IsSamePass}
use Rattle.reclaim_api.specs.Chained.{refs_in}
use Rattle.record_pieces.specs.Giving.{chain_loads}
use Rattle.manager.proofs.giving.go_along.Given as goal

-- the record stands as many places after the first one as loads were made
abbrev pub invariant-loop-step : goal.invariant-loop-step
invariant-loop-step g l = record {
  of : IsPassOf l.table l.pass;
  same : IsSamePass l.fn.pass l.pass;
  place : slice_index_or (refs_in (view l.fn.pass) l.free) l._step l.last ≡ l.last;
  mine : (view l.pass).own.mine ≡ (view l.fn.pass).own.mine;
  moves : (view l.pass).own.moves ≡ (view l.fn.pass).own.moves;
  walked : (ws : List (RefParts × ℕ)) × (length ws ≡ l._step) × Makes (view l.fn.pass) (view l.pass) (chain_loads (view l.fn.pass).own ws);
}
