-- The facts of Michael's list.
use Rattle.std.specs.Prelude.{◌≡◌, ◌<◌, false, None}
use Rattle.set_model.specs.declared.names.SetName.TheVariants.{Michael}
use Rattle.record_rule.specs.Facts.{ShapeFacts}
use Rattle.list_facts.specs.Lists.{ListFits}
use Rattle.list_facts.specs.Tellings.{ListTold, list_leads, list_present, ListShown}
use Rattle.list_facts.specs.Steps.{list_settled, MayMark, MayPublish, MayUnlink}

abbrev pub michael : ShapeFacts
michael = record {
  name = Michael;
  formed = ListFits (λ n. n < 2);
  told = λ setup x h. ListTold x h;
  leads = list_leads;
  present = list_present;
  knows = λ setup x updates start k. Unit {0};
  helped = ⊥;
  settled = list_settled;
  may_hold = λ near f. f ≡ 3;
  may_exchange = MayMark 0;
  may_publish = MayPublish 0;
  may_unlink = λ setup near f old gone new next call. (old.flags ≡ 0) × MayUnlink setup near f gone new × (call ≡ None);
  lockable = λ f. false;
  may_hold_frozen = λ setup near kept f. f ≡ 3;
  shown = ListShown (λ n. n < 2);
}
