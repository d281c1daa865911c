use Rattle.std.proofs.Common.{arith}
use Rattle.bench_core.proofs.ReadingLemmas.{Gave-piece}
use Rattle.bench_core.proofs.reading.read_all.Goals as goal

pub returns-then-count-len-clause-too_long : goal.returns-then-count-len-clause-too_long
returns-then-count-len-clause-too_long g c = λ _.
    let more = Gave-piece g.S.Source.left _ _ _ _ c.take.new.into c.in-Bytes.count c.in-Bytes.ensures.within c.pieces.invariant.0 c.in-Bytes.ensures.given in
    (more.0, more.1, omega (arith, more.2), omega (arith, more.2, c.in-Bytes.ensures.within))

pub returns-in_err-extend_from_slice-in-Bytes-clause-memory_within : goal.returns-in_err-extend_from_slice-in-Bytes-clause-memory_within
returns-in_err-extend_from_slice-in-Bytes-clause-memory_within g c = λ _.
    let more = Gave-piece g.S.Source.left _ _ _ _ c.take.new.into c.in-Bytes.count c.in-Bytes.ensures.within c.pieces.invariant.0 c.in-Bytes.ensures.given in
    (more.0, more.1, omega (arith, more.2))
