use Rattle.std.proofs.Common.{ℕ}
use Rattle.record_table.specs.Closing.{closed_setup}
use Rattle.key_sums.specs.Sums.{closed_rows}
use Rattle.key_sums.specs.Walking.{IsAt, HasCounted, left_behind}
use Rattle.key_sums.proofs.closing_walk.add_path.Given as goal

-- the walk is somewhere on the path, and what stands before is counted
abbrev pub invariant-loop-link : goal.invariant-loop-link
invariant-loop-link l = (place : ℕ) × IsAt (closed_setup l.closed) (closed_rows l.closed) l.root place l.link × HasCounted l.closed l.root place l.size l.sum

abbrev pub decreases-loop-link : goal.decreases-loop-link
decreases-loop-link l = left_behind (closed_rows l.closed) l.link.target
