use Rattle.std.proofs.Common.{ap, arith}
use Rattle.set_model.specs.Keys.{size_of}
use Rattle.set_model.proofs.RisingKeys.{IsDistinct-from_rising}
use Rattle.set_model.proofs.KeySets.{size_of-from_list}
use Rattle.set_model.proofs.plain_set.PlainSet.len.Goals as goal

pub returns : goal.returns
returns c = omega (arith, size_of-from_list c.self.inside.sorted.items (IsDistinct-from_rising _ c.self.invariant), ap (λ set. size_of set.keys) c.self.view_is)
