use Rattle.std.proofs.Common.{ap, ◌∙◌}
use Rattle.set_model.specs.Keys.{contains, from_list}
use Rattle.set_model.proofs.RisingKeys.{is_ok-search}
use Rattle.set_model.proofs.plain_set.PlainSet.contains.Goals as goal

pub returns : goal.returns
returns c =
    c.is_ok.ensures.value ∙ is_ok-search c.place_of.result c.deref.result.now c.args.key c.place_of.ensures.found c.place_of.ensures.absent
    ∙ ap (λ keys. contains (from_list keys) c.args.key) c.deref.ensures.value ∙ ap (λ set. contains set.keys c.args.key) c.self.view_is
