-- A set in which nothing is ever linked, and a reclaimer that frees nothing and lets nothing be reached: the least that keeps the laws. Tests of the table alone use them.
use Rattle.std.specs.Prelude.{◌≡◌, ℕ, zero, suc, List, [], replicate, true, false, Option, Some, None, refl}
use Rattle.std.proofs.Common.{arith, sym, ap, ◌∙◌, inl}
use Rattle.std.proofs.lemmas.Bool.{both_ways}
use mathlib.Core.Option.{some-ne-none}
use Rattle.row_words.specs.Refs.{RefParts}
use Rattle.set_model.specs.declared.calls.Update.{Update}
use Rattle.set_model.specs.declared.names.SetName.TheVariants.{Plain}
use Rattle.set_model.specs.declared.names.ReclaimerName.TheVariants.{Nothing}
use Rattle.set_model.specs.Keys.{contains}
use Rattle.set_model.specs.Histories.{keys_of}
use Rattle.set_model.proofs.KeySets.{contains-empty}
use Rattle.record_rule.specs.Facts.{At, ShapeFacts, CoverFacts}
use Rattle.record_rule.specs.Guards.{blank_guard}
use Rattle.record_rule.specs.Laws.{ShapeLaws, CoverLaws}

abbrev pub least_shape : ShapeFacts
least_shape = record {
  name = Plain;
  formed = λ setup x. Unit {0};
  told = λ setup x h. h.updates ≡ [];
  leads = λ f body. false;
  present = λ body. false;
  knows = λ setup x updates start k. Unit {0};
  helped = ⊥;
  settled = λ f body. true;
  may_hold = λ near f. ⊥;
  may_exchange = λ setup near f old new call. ⊥;
  may_publish = λ setup near f old body next call. ⊥;
  may_unlink = λ setup near f old gone new next call. ⊥;
  lockable = λ f. false;
  may_hold_frozen = λ setup near kept f. ⊥;
  shown = λ setup y updates. Unit {0};
}

pub least_shape_laws : ShapeLaws least_shape
least_shape_laws = record {
  starts = λ setup h some fit none. (tt, none);
  walks = λ setup x h given body t on step. let none : ⊥ = (let z = step.on in cc) in absurd none;
  reads = λ setup x h given roots k. (
    λ has. absurd (both_ways (contains (keys_of h.updates) k) (ap (λ (u : List Update). contains (keys_of u) k) given.1.1 ∙ contains-empty k) has),
    λ r. let none : ⊥ = (let z = r.present in cc) in absurd none,
  );
  keys_stand = λ setup x near f l formed n. refl;
  reaches = λ setup x near f l t formed n may plain to. absurd may;
  exchanges = λ setup x h t new given n link may. absurd may;
  locks = λ setup x t new formed n may. absurd may;
  comes_unlocked = λ setup x t body next n may. absurd may;
  goes_unlocked = λ setup x t gone note new next i generation m body formed fits link may. absurd may;
  leaves_unlocked = λ setup t gone note new next may. absurd may;
  publishes = λ setup x h t own body marked next given n fits is own_ref long name may. absurd may;
  gone_linked = λ setup x t gone note new next formed n to may. absurd may;
  follows = λ setup x h near f l start c kept t given n at behind known may to. absurd may;
  unlinks = λ setup x h t gone note new next i generation m body given n to fits behind link may. absurd may;
  hides = λ setup x h cells given hidden. record { stands = (tt, given.1.1); known = λ start k e. tt };
  shows = λ setup x h near f l start c target given n at seen behind. tt;
  nothing = λ setup x updates start r. tt;
  begins = λ setup x h c given. given.1.1;
}

abbrev pub least_cover : CoverFacts
least_cover = record {
  name = Nothing;
  covered = λ setup x. Unit {0};
  first = blank_guard 3;
  places = 3;
  begins_loading = false;
  births = λ g b. Unit {0};
  stamps = λ g n stamp. Unit {0};
  may_reach = λ g q. ⊥;
  reached = λ m g q t. g;
  shows = λ setup g word n. Unit {0};
  loaded = λ setup m d g word n. g;
  may_free = λ setup g n. false;
  cleared = λ setup g. g;
  may_store = λ setup g k v. ⊥;
  stored = λ m g step k v. g;
  begins = λ g k v. false;
  may_exchange = λ setup g old new. ⊥;
}

pub holds_nothing : (places p : ℕ) (t : RefParts) → ¬ At {A = Option RefParts} (replicate places None) p (Some t)
holds_nothing zero p t e = some-ne-none _ (sym e)
holds_nothing (suc n) zero t e = cc
holds_nothing (suc n) (suc p) t e = holds_nothing n p t e

pub least_cover_laws : CoverLaws least_cover
least_cover_laws = record {
  enough = omega arith;
  many = refl;
  nothing = holds_nothing 3;
  calm = refl;
  unstarted = (refl, refl, refl);
  starts = λ setup some. tt;
  hands = λ setup x i d generation b g is h at guard may. tt;
  links = λ setup x i d generation b is h at. tt;
  takes = λ setup x i d generation b is h at. tt;
  puts = λ setup x i d generation b n stamp g is h at guard may. tt;
  reaches = λ setup x d updates g q t is h at may. absurd may;
  reached = λ m g q t may. absurd may;
  looks = λ setup x d step updates g safe h at begins. tt;
  silent = refl;
  loads = λ setup x d updates n g word safe h at is. tt;
  shown = λ setup x d n g word safe h at is. tt;
  loaded = λ setup x d updates n g word safe h at is. record { holds = λ p t e. inl e; many = refl; words = refl; start = record { taken_out = refl; updates = refl; step = refl }; waits = λ p r e. (e, refl) };
  free_of = λ setup x i d generation b n stamp r g safe h at cell free. let none : ⊥ = cc in absurd none;
  frees = λ setup x d g cells safe h at freed. tt;
  cleared = λ setup g. record { holds = refl; waits = refl; words = refl; start = record { taken_out = refl; updates = refl; step = refl } };
  stores = λ setup x d k v step updates g safe h at low may. absurd may;
  stored = λ setup m g step k v may. absurd may;
  exchanges = λ setup x d old new g safe h at may is. absurd may;
}
