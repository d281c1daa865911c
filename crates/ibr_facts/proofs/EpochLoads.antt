-- A load of the epoch: it is its caller's last reading, and where it finds the upper end, what waits is held.
use Rattle.std.proofs.Common.{◌≡◌, ℕ, ◌+◌, ◌⊎◌, [], ◌∷◌, length, length-set, cond, eqb, Bool, true, false, Option, Some, None, sym, refl, ap, ◌∙◌, subst, arith, ⊎_elim, inl, inr}
use Rattle.std.proofs.lemmas.Bool.{eqb-true}
use Rattle.atomic_table.proofs.Lists.{at_set}
use Rattle.record_memory.specs.declared.books.Setup.{Setup}
use Rattle.record_memory.specs.declared.books.Guard.{Guard}
use Rattle.row_words.specs.Refs.{RefParts, refer}
use Rattle.record_rule.specs.Inputs.{SchemeInput}
use Rattle.record_rule.specs.Facts.{At}
use Rattle.record_rule.specs.Guards.{holding}
use Rattle.record_rule.specs.Laws.{with_guard, IsThere, HasLoaded}
use Rattle.guard_facts.specs.Announcing.{word_of, GuardsFit}
use Rattle.guard_facts.proofs.Replaced.{holds_on}
use Rattle.ibr_facts.specs.Intervals.{MeetsGuard, WaitsFor, HoldsSomewhere, IbrFits}
use Rattle.ibr_facts.specs.Keeping.{ibr_read}
use Rattle.ibr_facts.proofs.Meeting.{none_waits}
use Rattle.ibr_facts.proofs.Guarding.{changes}

abbrev read_by : Guard → ℕ → ℕ → Guard
read_by g n taken = record g { readings = n ∷ []; reading_taken_out = taken }

-- where nothing is confirmed
reads_on : (setup : Setup) (x : SchemeInput) (d n : ℕ) (g : Guard) → GuardsFit IbrFits setup x → At x.guards d g → x.epoch ≡ n → GuardsFit IbrFits setup (with_guard x d (read_by g n (length x.taken_out)))
reads_on setup x d n g h at is = changes setup x d g (read_by g n (length x.taken_out)) at h (λ i generation b m e k cell lt there has. let z = (h e k there).lower in omega arith) (λ i c generation b m stamp r cell y. y) (λ f. record {
  lower = f.lower;
  upper = let y = f.upper in let z = f.top in omega arith;
  top = omega arith;
  limit = f.limit;
  read = omega arith;
  outside = f.outside;
  holds = f.holds;
  waits = f.waits;
  stamped = f.stamped;
  scan = f.scan;
})

abbrev with_place : ℕ → Option RefParts → Option (ℕ × RefParts)
with_place p None = None
with_place p (Some t) = Some (p, t)

-- what is held afterwards was held, or waited
was_had : (g : Guard) (w : ℕ × RefParts) (t : RefParts) → g.pending ≡ Some w → HoldsSomewhere (holding g w.0 (Some w.1)) t → HoldsSomewhere g t ⊎ WaitsFor g t
was_had g w t e y = ⊎_elim (λ p. inr (w.0, e ∙ ap (λ (z : Option RefParts). with_place w.0 z) p.1)) (λ p. inl (y.0, p.1)) (at_set g.holds w.0 y.0 (Some w.1) (Some t) y.1)

-- where the epoch is the upper end: what waits is met, for the epoch isn't above that
confirms : (setup : Setup) (x : SchemeInput) (d n : ℕ) (g : Guard) (w : ℕ × RefParts) → GuardsFit IbrFits setup x → At x.guards d g → x.epoch ≡ n → n ≡ word_of g 1 → g.pending ≡ Some w
    → GuardsFit IbrFits setup (with_guard x d (read_by (holding g w.0 (Some w.1)) n (length x.taken_out)))
confirms setup x d n g w h at is same e = let new : Guard = read_by (holding g w.0 (Some w.1)) n (length x.taken_out) in changes setup x d g new at h (λ i generation b m q k cell lt there has. let z = (h q k there).lower in omega arith)
    (λ i c generation b m stamp r cell y. ((λ z. ⊎_elim y.0 (λ wait. let l = y.1 wait in omega arith) (was_had g w (refer (i + 1) generation) e z)), (λ z. none_waits None z.0 (refer (i + 1) generation) refl z.1)))
    (λ f. record {
      lower = f.lower;
      upper = omega arith;
      top = omega arith;
      limit = f.limit;
      read = omega arith;
      outside = λ off. none_waits g.pending w.0 w.1 (f.outside off).1 e;
      holds = λ t y. ⊎_elim (f.holds t) (λ wait. ⊎_elim (λ lt. let l = lt in absurd (omega arith)) (λ m. m) (f.waits wait.0 t wait.1).1) (was_had g w t e y);
      waits = λ p t y. none_waits None p t refl y;
      stamped = λ c i generation b m k cell there lt. ⊎_elim (λ y. f.stamped c i generation b m k cell there lt (was_had g w (refer (i + 1) generation) e y)) (λ y. none_waits None y.0 (refer (i + 1) generation) refl y.1);
      scan = f.scan;
    })

pub reads_epoch : (setup : Setup) (x : SchemeInput) (d n : ℕ) (g : Guard) → GuardsFit IbrFits setup x → At x.guards d g → x.epoch ≡ n → (o : Option (ℕ × RefParts)) → g.pending ≡ o → GuardsFit IbrFits setup (with_guard x d (ibr_read o g n (length x.taken_out)))
reads_epoch setup x d n g h at is None e = reads_on setup x d n g h at is
reads_epoch setup x d n g h at is (Some w) e = by (eqb n (word_of g 1)) refl
  where
    by : (a : Bool) → eqb n (word_of g 1) ≡ a → GuardsFit IbrFits setup (with_guard x d (read_by (cond a (holding g w.0 (Some w.1)) g) n (length x.taken_out)))
    by false q = reads_on setup x d n g h at is
    by true q = confirms setup x d n g w h at is (eqb-true n (word_of g 1) q) e

-- and what becomes of the guard
pub has_read : (setup : Setup) (x : SchemeInput) (d n taken : ℕ) (g : Guard) → IbrFits setup x d g → x.epoch ≡ n → (o : Option (ℕ × RefParts)) → g.pending ≡ o → HasLoaded x g (ibr_read o g n taken)
has_read setup x d n taken g f is None e = holds_on x g (read_by g n taken) refl refl refl record { taken_out = refl; updates = refl; step = refl }
has_read setup x d n taken g f is (Some w) e = by (eqb n (word_of g 1)) refl
  where
    by : (a : Bool) → eqb n (word_of g 1) ≡ a → HasLoaded x g (read_by (cond a (holding g w.0 (Some w.1)) g) n taken)
    by false q = holds_on x g (read_by g n taken) refl refl refl record { taken_out = refl; updates = refl; step = refl }
    by true q = let same : n ≡ word_of g 1 = eqb-true n (word_of g 1) q in let met : MeetsGuard x g w.1 = ⊎_elim (λ l. absurd (omega arith)) (λ m. m) (f.waits w.0 w.1 e).1 in record {
      holds = λ p t y. ⊎_elim
          (λ z. let wait = z.1 in let t_is : w.1 ≡ t = cc in inr (e ∙ (λ j. Some (sym z.0 j, t_is j)), subst (λ (r : RefParts). IsThere x r g.start_taken_out) t_is (met.0, met.1, met.2, met.3)))
          (λ z. inl z.1) (at_set g.holds w.0 p (Some w.1) (Some t) y);
      many = length-set g.holds w.0 (Some w.1);
      words = refl;
      start = record { taken_out = refl; updates = refl; step = refl };
      waits = λ p r y. none_waits None p r refl y;
    }
