-- The reclaimer that frees nothing covers what links of marked records lead to.
use Rattle.std.proofs.Common.{◌≡◌, true, false, refl, arith}
use Rattle.record_rule.specs.Frozen.{FrozenLaws}
use Rattle.cover_facts.specs.Keeping.{none}
use Rattle.cover_facts.proofs.There.{there_sooner}

pub none_frozen : FrozenLaws none
none_frozen = record {
  stands = λ setup x d k g q t safe h at may late behind there. there_sooner x t k g.start_taken_out behind (h k t there);
  freezes = λ setup x d k updates g q t safe h at may late behind there. h;
  holds = λ m g q t. refl;
  many = omega arith;
}

-- its guards start with loads of links
pub none_begins : {A : Type 0} → none.begins_loading ≡ false → A
none_begins e = let off : true ≡ false = e in let no_such : ⊥ = cc in absurd no_such
