-- A caller follows a link: what it leads to waits, and its place holds nothing.
use Rattle.std.proofs.Common.{◌≡◌, ◌≢◌, ℕ, ◌+◌, ◌-◌, ◌<◌, ◌≤◌, ◌⊎◌, length-set, set, Option, Some, None, sym, refl, ap, subst, arith, ⊎_elim, inl, inr}
use Rattle.std.specs.Prelude.{MatchOption}
use native.Mathlib.Decide.{dec_lt}
use Rattle.atomic_table.proofs.Lists.{at_set}
use Rattle.record_memory.specs.declared.books.Setup.{Setup}
use Rattle.record_memory.specs.declared.books.Guard.{Guard}
use Rattle.row_words.specs.Refs.{RefParts, refer}
use Rattle.record_rule.specs.Inputs.{SchemeCell, reachable, unretired, limbo, SchemeInput}
use Rattle.record_rule.specs.Facts.{At, Moment, Reach}
use Rattle.record_rule.specs.Laws.{with_guard, HasReached}
use Rattle.record_rule.proofs.Lists.{one_at}
use Rattle.guard_facts.specs.Announcing.{word_of}
use Rattle.ibr_facts.specs.Intervals.{HoldsSomewhere}
use Rattle.ibr_facts.specs.Keeping.{IbrCovered, waiting_at, ibr_reached, ibr}
use Rattle.ibr_facts.proofs.Guarding.{changes, stamped_on}

-- what it holds then it held, at another place
hold_less : (g : Guard) (p q : ℕ) (r : RefParts) → At (set g.holds p None) q (Some r) → (q ≢ p) × At g.holds q (Some r)
hold_less g p q r e = ⊎_elim (λ y. let none : ⊥ = (let z : None ≡ Some r = y.1 in cc) in absurd none) (λ y. y) (at_set g.holds p q None (Some r) e)

waiting_is : (t : Option RefParts) (p q : ℕ) (r : RefParts) → waiting_at t p ≡ Some (q, r) → (p ≡ q) × (t ≡ Some r)
waiting_is None p q r e = let none : ⊥ = cc in absurd none
waiting_is (Some t) p q r e = let same : ◌≡◌ {A = ℕ × RefParts} (p, t) (q, r) = cc in (ap (λ (z : ℕ × RefParts). z.0) same, ap (λ (z : ℕ × RefParts). Some z.1) same)

-- an interval that doesn't meet a birth yet ends below the epoch
upper_or : {M : Type 0} (u e b : ℕ) → b ≤ e → (b ≤ u → M) → (u < e) ⊎ M
upper_or {M = M} u e b le m = by (dec_lt u e)
  where
    by : Dec (u < e) → (u < e) ⊎ M
    by (yes h) = inl h
    by (no h) = inr (m (omega arith))

abbrev LeadsTo : SchemeInput → RefParts → Type 0
LeadsTo x u = (b : ℕ) × (0 < u.index) × At x.cells (u.index - 1) (reachable u.generation b)

pub reaches_so : (setup : Setup) (x : SchemeInput) (d p : ℕ) (g : Guard) (t : Option RefParts) → IbrCovered setup x → At x.guards d g → word_of g 0 ≢ 0 → MatchOption t (Unit {0}) (LeadsTo x) → IbrCovered setup (with_guard x d (ibr_reached g p t))
reaches_so setup x d p g t h at on found = let new : Guard = ibr_reached g p t in (
  changes setup x d g new at h.0 (stamped_on setup x d g at h.0)
      (λ i c generation b n stamp r cell y. (less i generation y.0, (λ z. absurd (apart i generation z.0 (limbo c generation b n stamp r) (λ a q w. cc) cell z.1))))
      (λ f. record {
        lower = f.lower;
        upper = f.upper;
        top = f.top;
        limit = f.limit;
        read = f.read;
        outside = λ e. absurd (on e);
        holds = λ r e. f.holds r (e.0, (hold_less g p e.0 r e.1).1);
        waits = λ q r e. let y = seen q r e in (
          (λ u z. absurd ((hold_less g p q u z).0 (sym (waiting_is t p q r e).0))),
          upper_or (word_of g 1) x.epoch y.0 (h.1 (r.index - 1) (reachable r.generation y.0) y.2) (λ le. (reachable r.generation y.0, y.1, y.2, refl, le)),
        );
        stamped = λ c i generation b n k cell there lt. ⊎_elim (λ e. f.stamped c i generation b n k cell there lt (inl (e.0, (hold_less g p e.0 (refer (i + 1) generation) e.1).1)))
            (λ e. absurd (apart i generation e.0 (unretired c generation b n) (λ a q z. cc) cell e.1));
        scan = f.scan;
      }),
  h.1,
)
  where
    -- what waits is linked
    seen : (q : ℕ) (r : RefParts) → waiting_at t p ≡ Some (q, r) → LeadsTo x r
    seen q r e = subst (λ (o : Option RefParts). MatchOption o (Unit {0}) (LeadsTo x)) (waiting_is t p q r e).1 found

    -- so it isn't a record that was taken out
    apart : (i generation q : ℕ) (c : SchemeCell) → ((e b : ℕ) → c ≢ reachable e b) → At x.cells i c → waiting_at t p ≡ Some (q, refer (i + 1) generation) → ⊥
    apart i generation q c other cell e = let y = seen q (refer (i + 1) generation) e in
        other generation y.0 (one_at x.cells i c (reachable generation y.0) cell (subst (λ (z : ℕ). At x.cells z (reachable generation y.0)) (let z : i + 1 - 1 ≡ i = omega arith in z) y.2))

    less : (i generation : ℕ) → (HoldsSomewhere g (refer (i + 1) generation) → ⊥) → HoldsSomewhere (ibr_reached g p t) (refer (i + 1) generation) → ⊥
    less i generation y z = y (z.0, (hold_less g p z.0 (refer (i + 1) generation) z.1).1)

pub reached_so : (m : Moment) (g : Guard) (q : Reach) (t : Option RefParts) → HasReached ibr m g q t
reached_so m g q t = record {
  holds = λ p r e. inl ((hold_less g q.place p r e).1, refl);
  many = length-set g.holds q.place None;
  only = λ r e. absurd ((hold_less g q.place q.place r e).0 refl);
  words = refl;
  start = record { taken_out = refl; updates = refl; step = refl };
  waits = λ p r e. let y = waiting_is t q.place p r e in (sym y.0, y.1, λ u hold. (hold_less g q.place q.place u hold).0 refl);
}
