-- Michael's list keeps its facts.
use Rattle.std.proofs.Common.{refl, arith, sym, subst}
use Rattle.set_model.specs.declared.names.SetName.{SetName}
use Rattle.record_rule.specs.Facts.{with_link, clean, IsLegalUpdate}
use Rattle.record_rule.specs.Laws.{update_by, ShapeLaws}
use Rattle.list_facts.specs.Michael.{michael}
use Rattle.list_facts.proofs.Bodies.{clear_flags, is_unsettled, stays_settled}
use Rattle.list_facts.proofs.Nodes.{clean_link}
use Rattle.list_facts.proofs.Turning.{reaches, not_itself}
use Rattle.list_facts.proofs.Frozen.{leads_from, follows_behind}
use Rattle.list_facts.proofs.Marking.{call_is, mark_legal, marks}
use Rattle.list_facts.proofs.Publishing.{publish_legal, publishes}
use Rattle.list_facts.proofs.Unlinking.{unlinks}
use Rattle.list_facts.proofs.Openings.{opening_fits, opening_told}
use Rattle.list_facts.proofs.Shows.{shows}
use Rattle.list_facts.proofs.Hiding.{hiding_fits, hiding_told}
use Rattle.list_facts.proofs.Walking.{list_walks, list_reads}

-- its only flag is the mark
pub michael_laws : ShapeLaws michael
michael_laws = record {
  starts = λ setup h some fit none. (opening_fits setup _ (omega arith), opening_told setup h none);
  walks = λ setup x h given body t on step. list_walks given.1.0 body t on step;
  reads = λ setup x h given roots. list_reads given.1.0 roots given.1.1;
  keys_stand = λ setup x near f l fits n. refl;
  reaches = λ setup x near f l t fits n hold clear e. reaches fits n hold clear t e;
  exchanges = λ setup x h t new given n in_range may. let clear = clean_link n may.0 (clear_flags t.old 0 refl may.3) in record {
    stands = marks given.1.0 given.1.1 n in_range 0 refl may t.caller t.number (omega arith);
    legal = subst (λ (z : SetName). IsLegalUpdate z h.updates (update_by t)) (sym given.3) (rw (call_is given.1.0 given.1.1 n in_range 0 refl may) (mark_legal given.1.0 given.1.1 n in_range 0 refl may t.caller t.number));
    unsettled = is_unsettled n.body t.field may.0 clear;
    settled = λ g. stays_settled n.body (with_link n.body t.field n.generation new) g clear;
    known = λ start k e. tt;
  };
  -- no word may be locked
  locks = λ setup x t new fits n may lockable. let none : ⊥ = cc in absurd none;
  comes_unlocked = λ setup x t body next n may g lockable. let none : ⊥ = cc in absurd none;
  goes_unlocked = λ setup x t gone note new next i generation m body fits held link may g lockable. let none : ⊥ = cc in absurd none;
  leaves_unlocked = λ setup t gone note new next may lockable. let none : ⊥ = cc in absurd none;
  publishes = λ setup x h t own body marked next given n fits_next free ref long name may. let clear = clean_link n may.field (clear_flags t.old 0 refl may.flags_are) in record {
    stands = publishes given.1.0 given.1.1 n 0 refl fits_next may free ref marked t.caller t.number (omega arith);
    legal = subst (λ (z : SetName). IsLegalUpdate z h.updates (update_by t)) (sym given.3) (rw may.decides (publish_legal given.1.0 given.1.1 n 0 refl fits_next may t.caller t.number));
    unsettled = is_unsettled n.body t.field may.field clear;
    settled = λ g. stays_settled n.body (with_link n.body t.field n.generation (clean own)) g clear;
    known = λ start k e. tt;
  };
  gone_linked = λ setup x t gone note new next fits n to may. let clear = clear_flags t.old 0 refl may.0 in (reaches fits n may.1.0 clear gone to, not_itself fits n may.1.0 clear gone to);
  follows = λ setup x h near f l start c kept t given n at behind known may to. follows_behind x (leads_from given.1.0 n may t to) behind;
  unlinks = λ setup x h t gone note new next i generation m body given n to held behind in_range may. let clear = clear_flags t.old 0 refl may.0 in let plain = clean_link n may.1.0 clear in record {
    stands = rw may.2 (unlinks given.1.0 given.1.1 n to clear held in_range may.1 (omega arith) given.0);
    legal = rw may.2 tt;
    unsettled = is_unsettled n.body t.field may.1.0 plain;
    settled = λ g. stays_settled n.body (with_link n.body t.field n.generation new) g plain;
    known = λ start k e. tt;
  };
  hides = λ setup x h cells given hid. record { stands = (hiding_fits x.cells cells hid _ setup x refl given.1.0, hiding_told x h cells hid given.1.1); known = λ start k e. tt };
  shows = λ setup x h near f l start c target given n at seen late. shows given.1.0 given.1.1 n seen start;
  nothing = λ setup x updates start r. tt;
  -- the facts read nothing of the guards' starts
  begins = λ setup x h c given. let told = given.1.1 in record { keys = told.keys; marks = told.marks; alone = told.alone; balance = told.balance };
}
