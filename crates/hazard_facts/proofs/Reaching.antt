-- A link is followed: the place holds its target where the own word names it. The guard is that of no reclamation, for this target.
use Rattle.std.proofs.Common.{◌≡◌, ℕ, ◌-◌, ◌<◌, List, get_or, cond, eqb, Bool, true, false, Option, Some, None, refl, ap, ◌∙◌, subst, arith, ⊎_elim, inl, inr}
use Rattle.std.specs.Prelude.{MatchOption}
use Rattle.std.proofs.lemmas.Bool.{eqb-true}
use Rattle.record_memory.specs.declared.books.Setup.{Setup}
use Rattle.record_memory.specs.declared.books.Guard.{Guard}
use Rattle.row_words.specs.Refs.{RefParts}
use Rattle.row_words.specs.Packing.{packed_ref}
use Rattle.record_rule.specs.Inputs.{reachable, limbo, SchemeInput}
use Rattle.record_rule.specs.Facts.{At, Moment, Reach}
use Rattle.record_rule.specs.Guards.{started_at, started_if}
use Rattle.record_rule.specs.Laws.{moment, with_guard, HasReached}
use Rattle.record_rule.proofs.Lists.{one_at}
use Rattle.cover_facts.specs.Keeping.{none}
use Rattle.cover_facts.proofs.KeepingLaws.{none_laws}
use Rattle.guard_facts.specs.Announcing.{word_of, GuardsFit}
use Rattle.guard_facts.proofs.Replaced.{empty_holds}
use Rattle.hazard_facts.specs.Pointers.{named_by, HazardFits, hazard}
use Rattle.hazard_facts.proofs.Frames.{guard_over}

-- what the word of a place names there is the target, and the word does name it
pub named_is : (g : Guard) (p : ℕ) (t : Option RefParts) (r : RefParts) → named_by g p t ≡ Some r → (t ≡ Some r) × (word_of g p ≡ packed_ref (Some r))
named_is g p None r e = let none : ⊥ = cc in absurd none
named_is g p (Some t) r e = by (eqb (word_of g p) (packed_ref (Some t))) refl e
  where
    by : (b : Bool) → eqb (word_of g p) (packed_ref (Some t)) ≡ b → cond b (Some t) None ≡ Some r → (Some t ≡ Some r) × (word_of g p ≡ packed_ref (Some r))
    by true q e = (e, eqb-true (word_of g p) (packed_ref (Some t)) q ∙ ap packed_ref e)
    by false q e = let none : ⊥ = cc in absurd none

-- as under no reclamation
as_kept : (m : Moment) (g : Guard) (q : Reach) (t : Option RefParts) → q.place < 3 → HasReached none m g q (named_by g q.place t)
as_kept m g q t low = none_laws.reached m g q (named_by g q.place t) (omega (arith, low))

pub has_reached : (m : Moment) (g : Guard) (q : Reach) (t : Option RefParts) → q.place < 3 → HasReached hazard m g q t
has_reached m g q t low = let z = as_kept m g q t low in record {
  holds = λ p r e. ⊎_elim (λ y. inl y) (λ y. inr (y.0, (named_is g q.place t r y.1).0)) (z.holds p r e);
  many = z.many;
  words = z.words;
  only = λ r e. (named_is g q.place t r (z.only r e)).0;
  start = z.start;
  waits = λ p r e. let none : ⊥ = cc in absurd none;
}

loaded_then : (first : Bool) (m : Moment) (g : Guard) (step : ℕ) → (started_if first m g step).loaded ≡ g.loaded
loaded_then true m g step = refl
loaded_then false m g step = refl

-- a linked record isn't in limbo, so no scan has missed it
pub reaches_so : (setup : Setup) (x : SchemeInput) (d updates : ℕ) (g : Guard) (q : Reach) (t : Option RefParts) → GuardsFit HazardFits setup x → At x.guards d g → q.place < 3
    → MatchOption t (Unit {0}) (λ u. (b : ℕ) × (0 < u.index) × At x.cells (u.index - 1) (reachable u.generation b)) → GuardsFit HazardFits setup (with_guard x d (hazard.reached (moment x updates) g q t))
reaches_so setup x d updates g q t h at low found = let m : Moment = moment x updates in let new : Guard = hazard.reached m g q t in let z = as_kept m g q t low in
    guard_over setup x d g new at
    (λ p r e. ⊎_elim (λ y. inl y.0) (λ y. inr (λ c generation b n stamp u cell. let l = linked r (named_is g q.place t r y.1).0 in
    let no_such : reachable r.generation l.0 ≡ limbo c generation b n stamp u = one_at x.cells (r.index - 1) (reachable r.generation l.0) (limbo c generation b n stamp u) l.2 cell in cc)) (z.holds p r e)) h
    (λ f. record {
      names = λ p r e. let w = ap (λ (l : List ℕ). get_or l p 0) z.words in ⊎_elim
          (λ y. let was = f.names p r y.0 in (was.0, w ∙ was.1))
          (λ y. ((let i = y.0 in omega arith), w ∙ ap (λ (j : ℕ). word_of g j) y.0 ∙ (named_is g q.place t r y.1).1)) (z.holds p r e);
      scan = λ j v k r l there hold. f.scan j v k r (subst (λ (z : List ℕ). At z j v) (loaded_then q.first m g q.step) l) there hold;
    })
  where
    linked : (r : RefParts) → t ≡ Some r → (b : ℕ) × (0 < r.index) × At x.cells (r.index - 1) (reachable r.generation b)
    linked r e = subst (λ (o : Option RefParts). MatchOption o (Unit {0}) (λ u. (b : ℕ) × (0 < u.index) × At x.cells (u.index - 1) (reachable u.generation b))) e found

-- a guard that starts holds nothing
pub looks_so : (setup : Setup) (x : SchemeInput) (d step updates : ℕ) (g : Guard) → GuardsFit HazardFits setup x → At x.guards d g → GuardsFit HazardFits setup (with_guard x d (started_at (moment x updates) g step))
looks_so setup x d step updates g h at = guard_over setup x d g (started_at (moment x updates) g step) at (λ p t e. absurd (empty_holds g.holds p t e)) h (λ f. record { names = λ p t e. absurd (empty_holds g.holds p t e); scan = f.scan })
