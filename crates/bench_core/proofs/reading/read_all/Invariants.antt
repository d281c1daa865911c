use Rattle.std.proofs.Common.{◌≡◌, ◌≤◌, ◌-◌, length}
use Rattle.bench_core.specs.Reading.{Gave}
use Rattle.bench_core.proofs.reading.read_all.Given as goal

abbrev pub invariant-pieces : goal.invariant-pieces
invariant-pieces g l = Gave g.S.Source.left l.fn.source l.source l.bytes.items × (length l.bytes.items ≤ 67108864) × (g.S.Source.faults l.source ≡ g.S.Source.faults l.fn.source) × (length l.piece ≡ 4096)

abbrev pub decreases-pieces : goal.decreases-pieces
decreases-pieces g l = 67108864 - length l.bytes.items
