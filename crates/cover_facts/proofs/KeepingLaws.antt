-- The reclaimer that frees nothing keeps its facts.
use Rattle.std.specs.Prelude.{◌≡◌, ℕ, ◌+◌, ◌-◌, ◌<◌, ◌≤◌, [], ◌∷◌, ◌++◌, ◌&&◌, length, List, Bool, true, false, Option, Some, None, refl}
use Rattle.std.proofs.Common.{arith, sym, ap, ◌∙◌, subst, ⊎_elim, inl, inr, set, length-set}
use Rattle.std.proofs.lemmas.List.{length-map}
use native.Mathlib.Decide.{ℕ_discrete}
use mathlib.Core.Option.{some, some-ne-none}
use lib.ListN.{get_elem?}
use Rattle.atomic_table.proofs.Lists.{at_set, set_here, set_else}
use Rattle.record_memory.specs.declared.books.Setup.{Setup}
use Rattle.record_memory.specs.declared.books.Guard.{Guard}
use Rattle.row_words.specs.Refs.{RefParts, refer}
use Rattle.set_model.specs.declared.names.ReclaimerName.TheVariants.{Nothing}
use Rattle.record_rule.specs.Inputs.{start_of, SchemeCell, unseen, reachable, unpublished, unretired, limbo, SchemeInput}
use Rattle.record_rule.specs.Facts.{At, Moment, Reach, CoverFacts}
use Rattle.record_rule.specs.Guards.{blank_guard, nothing_at, started_if, holding}
use Rattle.record_rule.specs.Laws.{IsThereAs, IsThere, StartsIf, HasReached, IsFreed, goes, stays, FreedCells, CoverLaws}
use Rattle.record_rule.specs.Least.{holds_nothing}
use Rattle.record_rule.proofs.Lists.{below_at, at_below, one_at, map_at}
use Rattle.record_rule.proofs.Seats.{at_end}
use Rattle.cover_facts.specs.Keeping.{PLACES, StayThere, none}
use Rattle.cover_facts.proofs.There.{stays_there, linked_stays, handed_stays, taken_stays, retired_stays}

-- taking out: the references there were, and the new one
took : (setup : Setup) (x : SchemeInput) (i d generation b : ℕ) → StayThere setup x → At x.cells i (reachable generation b) → StayThere setup (record x { cells = set x.cells i (unretired d generation b (length x.taken_out)); taken_out = x.taken_out ++ refer (i + 1) generation ∷ [] })
took setup x i d generation b h at k t e = ⊎_elim
    (λ q. stays_there x i (unretired d generation b (length x.taken_out)) t k (h k t q) (λ cell here same there. taken_stays x i d generation b (length x.taken_out) at cell t k (let l = below_at x.taken_out k t q in omega arith) here there))
    (λ q. let index : i + 1 ≡ t.index = ap (λ (r : RefParts). r.index) q.1 in (
      unretired d generation b (length x.taken_out),
      omega arith,
      ap (get_elem? (set x.cells i (unretired d generation b (length x.taken_out)))) (let z : t.index - 1 ≡ i = omega arith in z) ∙ set_here x.cells i (unretired d generation b (length x.taken_out)) (below_at x.cells i (reachable generation b) at),
      (ap (λ (r : RefParts). r.generation) q.1, (let z = q.0 in omega arith)),
    )) (at_end x.taken_out (refer (i + 1) generation) t k e)

-- what a guard holds once it followed a link
held_before : (first : Bool) (m : Moment) (g : Guard) (step q : ℕ) (r : RefParts) → At (started_if first m g step).holds q (Some r) → At g.holds q (Some r) × (start_of g ≡ start_of (started_if first m g step))
held_before true m g step q r e = let x = map_at nothing_at g.holds q (Some r) e in let none : ⊥ = (let z : None ≡ Some r = x.2 in cc) in absurd none
held_before false m g step q r e = (e, refl)

pub many_then : (first : Bool) (m : Moment) (g : Guard) (step : ℕ) → length (started_if first m g step).holds ≡ length g.holds
many_then true m g step = length-map g.holds nothing_at
many_then false m g step = refl

words_then : (first : Bool) (m : Moment) (g : Guard) (step : ℕ) → (started_if first m g step).announced ≡ g.announced
words_then true m g step = refl
words_then false m g step = refl

start_then : (first : Bool) (m : Moment) (g : Guard) (step place : ℕ) (t : Option RefParts) → StartsIf (true && first) m step g (holding (started_if first m g step) place t)
start_then true m g step place t = record { taken_out = refl; updates = refl; step_is = refl }
start_then false m g step place t = record { taken_out = refl; updates = refl; step = refl }

reached_so : (m : Moment) (g : Guard) (q : Reach) (t : Option RefParts) → HasReached none m g q t
reached_so m g q t = let s : Guard = started_if q.first m g q.step in record {
  holds = λ p r e. ⊎_elim (λ x. inr (x.0, x.1)) (λ x. inl (held_before q.first m g q.step p r x.1)) (at_set s.holds q.place p t (Some r) e);
  many = length-set s.holds q.place t ∙ many_then q.first m g q.step;
  words = words_then q.first m g q.step;
  only = λ r e. ⊎_elim (λ x. x.1) (λ x. absurd (x.0 refl)) (at_set s.holds q.place q.place t (Some r) e);
  start = start_then q.first m g q.step q.place t;
  waits = λ p r e. let none : ⊥ = cc in absurd none;
}

-- nothing leaves limbo
same_cell : (d i : ℕ) (old new : SchemeCell) → IsFreed (λ n. false) d i old new → new ≡ old
same_cell d i old _ (goes generation b n stamp r is free) = let none : ⊥ = cc in absurd none
same_cell d i old _ (stays k) = refl

kept_there : (cells cells' : List SchemeCell) (d : ℕ) → FreedCells (λ n. false) d cells cells' → (t : RefParts) (k : ℕ) → (cell : SchemeCell) × (0 < t.index) × At cells (t.index - 1) cell × IsThereAs cell t.generation k
    → (cell : SchemeCell) × (0 < t.index) × At cells' (t.index - 1) cell × IsThereAs cell t.generation k
kept_there cells cells' d f t k h = let y = at_below cells' (t.index - 1) (let l = below_at cells (t.index - 1) h.0 h.2 in let m = f.many in omega arith) in let x = f.each (t.index - 1) y.0 y.1 in
    (h.0, h.1, y.1 ∙ ap some (same_cell d (t.index - 1) x.0 y.0 x.2 ∙ one_at cells (t.index - 1) x.0 h.0 x.1 h.2), h.3)

pub none_laws : CoverLaws none
none_laws = record {
  enough = omega arith;
  many = refl;
  nothing = holds_nothing PLACES;
  calm = refl;
  unstarted = (refl, refl, refl);
  starts = λ setup some k t e. absurd (some-ne-none t (sym e));
  hands = λ setup x i d generation b g safe h at guard may k t e. stays_there x i (unpublished d generation b) t k (h k t e) (λ cell here same there. handed_stays x i d generation b at cell t k here there);
  links = λ setup x i d generation b safe h at k t e. stays_there x i (reachable generation b) t k (h k t e) (λ cell here same there. linked_stays x i d generation b at cell t k here there);
  takes = λ setup x i d generation b safe h at. took setup x i d generation b h at;
  puts = λ setup x i d generation b n stamp g safe h at guard may k t e. stays_there x i (limbo d generation b n stamp x.epoch) t k (h k t e) (λ cell here same there. retired_stays x i d generation b n stamp x.epoch at cell t k here there);
  reaches = λ setup x d updates g q t safe h at may found. h;
  reached = λ m g q t may. reached_so m g q t;
  looks = λ setup x d step updates g safe h at begins. h;
  silent = refl;
  loads = λ setup x d updates n g word safe h at is. h;
  shown = λ setup x d n g word safe h at is. tt;
  loaded = λ setup x d updates n g word safe h at is. record { holds = λ p t e. inl e; many = refl; words = refl; start = record { taken_out = refl; updates = refl; step = refl }; waits = λ p r e. (e, refl) };
  free_of = λ setup x i d generation b n stamp r g safe h at cell free. let none : ⊥ = cc in absurd none;
  frees = λ setup x d g cells safe h at freed k t e. kept_there x.cells cells d freed t k (h k t e);
  cleared = λ setup g. record { holds = refl; waits = refl; words = refl; start = record { taken_out = refl; updates = refl; step = refl } };
  stores = λ setup x d k v step updates g safe h at low may. absurd may;
  stored = λ setup m g step k v may. absurd may;
  exchanges = λ setup x d old new g safe h at may is. absurd may;
}
