use Rattle.key_sums.specs.Walking.{HasCounted}
use Rattle.key_sums.proofs.closing_walk.size_and_sum.Given as goal

-- the paths of the roots before this one are counted
abbrev pub invariant-loop-root : goal.invariant-loop-root
invariant-loop-root l = HasCounted l.closed l.root 0 l.counted.0 l.counted.1
