use Rattle.std.proofs.Common.{◌≡◌, arith}
use Rattle.record_table.specs.Closing.{closed_setup}
use Rattle.key_sums.proofs.WalkSteps.{begins}
use Rattle.key_sums.proofs.ClosedSums.{sums_are, size_left, sum_left}
use Rattle.key_sums.proofs.closing_walk.size_and_sum.Goals as goal

pub loop-root-init : goal.loop-root-init
loop-root-init c = begins _ _

pub returns-clause-present : goal.returns-clause-present
returns-clause-present c =
    let last : c.loop-root.root ≡ (closed_setup c.args.closed.now).roots = omega (arith, c.loop-root-test.false, c.roots-root-end.ensures, c.loop-root.auto.root-end) in
    sums_are c.args.closed.now c.requires.lists c.loop-root.root _ _ last c.loop-root.invariant

pub returns-clause-size : goal.returns-clause-size
returns-clause-size c =
    let last : c.loop-root.root ≡ (closed_setup c.args.closed.now).roots = omega (arith, c.loop-root-test.false, c.roots-root-end.ensures, c.loop-root.auto.root-end) in
    size_left c.args.closed.now c.requires.lists _ _ (sums_are c.args.closed.now c.requires.lists c.loop-root.root _ _ last c.loop-root.invariant)

pub returns-clause-sum : goal.returns-clause-sum
returns-clause-sum c =
    let last : c.loop-root.root ≡ (closed_setup c.args.closed.now).roots = omega (arith, c.loop-root-test.false, c.roots-root-end.ensures, c.loop-root.auto.root-end) in
    sum_left c.args.closed.now c.requires.lists _ _ (sums_are c.args.closed.now c.requires.lists c.loop-root.root _ _ last c.loop-root.invariant)
