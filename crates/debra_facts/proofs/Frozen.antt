-- DEBRA covers what links of marked records lead to: what was taken out behind an active caller's start is still there.
use Rattle.std.proofs.Common.{Some, refl, arith}
use Rattle.record_rule.specs.Frozen.{FrozenLaws}
use Rattle.cover_facts.proofs.There.{there_sooner}
use Rattle.debra_facts.specs.Debra.{debra}
use Rattle.debra_facts.proofs.Lives.{reaches_so}

pub debra_frozen : FrozenLaws debra
debra_frozen = record {
  stands = λ setup x d k g q t safe h at may late behind there. there_sooner x t k g.start_taken_out behind ((h d g at).stands may.0 k t behind there);
  freezes = λ setup x d k updates g q t safe h at may late behind there. reaches_so setup x h d q.place g (Some t) at may.0;
  holds = λ m g q t. refl;
  many = omega arith;
}
