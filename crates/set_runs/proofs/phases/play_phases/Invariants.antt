use Rattle.std.proofs.Common.{◌≡◌, ℕ, ◌+◌, ◌≤◌, List, All, length}
use Rattle.workload_text.specs.Limits.{phase_lines}
use Rattle.set_runs.specs.Playing.{AtEach, IsAt}
use Rattle.set_runs.proofs.phases.play_phases.Given as goal

abbrev pub invariant-loop-phase : goal.invariant-loop-phase
invariant-loop-phase g l = record {
  last : l.phase-end ≡ phase_lines l.workload.lists + 1;
  first : l.phase ≡ 0 → All (λ player. length (g.S.ConcurrentSet.view player.caller).front ≤ 0) l.players;
  at : (bounds : List ℕ) × AtEach (λ i p. IsAt g.S.ConcurrentSet.has l.set l.workload.lists l.phase g.S.ConcurrentSet.view (g.S.ConcurrentSet.steps (g.S.ConcurrentSet.setup l.set)) l.budget bounds i (g.S.ConcurrentSet.view p.caller)) l.fn.players l.players;
}
