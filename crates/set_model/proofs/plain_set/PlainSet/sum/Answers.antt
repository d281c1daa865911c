use Rattle.std.proofs.Common.{ap, ◌∙◌, sym}
use Rattle.std.specs.Prelude as words
use Rattle.set_model.specs.Keys.{sum_of}
use Rattle.set_model.proofs.RisingKeys.{IsDistinct-from_rising}
use Rattle.set_model.proofs.KeySets.{sum_of-from_list}
use Rattle.set_model.proofs.plain_set.PlainSet.sum.Goals as goal

pub returns : goal.returns
returns c =
    c.total_of.ensures ∙ ap words.sum c.deref.ensures.value ∙ sym (sum_of-from_list c.self.inside.sorted.items (IsDistinct-from_rising _ c.self.invariant)) ∙ ap (λ set. sum_of set.keys) c.self.view_is
