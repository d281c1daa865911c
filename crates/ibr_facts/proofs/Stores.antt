-- A caller stores an end of its interval. What waits doesn't outlast it.
use Rattle.std.proofs.Common.{◌≡◌, ℕ, ◌+◌, ◌≤◌, length, map, set, cond, eqb, Bool, true, false, None, sym, refl, ◌∙◌, subst, arith, ⊎_elim, inl, get_or-set_same, get_or-set_other}
use Rattle.record_memory.specs.declared.books.Setup.{Setup}
use Rattle.record_memory.specs.declared.books.Guard.{Guard}
use Rattle.row_words.specs.Refs.{refer}
use Rattle.record_rule.specs.Inputs.{SchemeInput}
use Rattle.record_rule.specs.Facts.{At, Moment}
use Rattle.record_rule.specs.Guards.{nothing_at}
use Rattle.record_rule.specs.Laws.{moment, with_guard, IsSafe, HasStored}
use Rattle.guard_facts.specs.Announcing.{word_of, reading, GuardsFit, entered, left}
use Rattle.guard_facts.proofs.Replaced.{empty_holds, enters, leaves}
use Rattle.ibr_facts.specs.Intervals.{MeetsAs, IbrFits}
use Rattle.ibr_facts.specs.Keeping.{IbrMayStore, raised, ibr_stored, ibr_begins}
use Rattle.ibr_facts.proofs.Meeting.{none_waits, meets_more}
use Rattle.ibr_facts.proofs.Guarding.{changes, stamped_on}

-- the last reading as the upper end: the interval grows
raises : (setup : Setup) (x : SchemeInput) (d v : ℕ) (g : Guard) → IsSafe setup x → GuardsFit IbrFits setup x → At x.guards d g → v ≡ reading g 0 → GuardsFit IbrFits setup (with_guard x d (raised g v))
raises setup x d v g safe h at is = let new : Guard = raised g v in let four = safe.words d g at in let low : word_of new 0 ≡ word_of g 0 = get_or-set_other g.announced 1 0 v 0 (λ e. omega arith) in let up : word_of new 1 ≡ v = get_or-set_same g.announced 1 v 0 (omega arith) in
    changes setup x d g new at h (stamped_on setup x d g at h) (λ i c generation b m stamp r cell y. (y.0, (λ z. none_waits None z.0 (refer (i + 1) generation) refl z.1))) (λ f. record {
      lower = let z = f.lower in omega arith;
      upper = omega arith;
      top = f.top;
      limit = f.limit;
      read = f.read;
      outside = λ e. ((f.outside (sym low ∙ e)).0, refl);
      holds = λ t e. let m = f.holds t e in (m.0, m.1, m.2, m.3, subst (λ (z : ℕ). MeetsAs m.0 z (word_of new 1)) (sym low) (meets_more m.0 (word_of g 0) (word_of g 1) (word_of new 1) (let z = f.upper in omega arith) m.4));
      waits = λ p t e. none_waits None p t refl e;
      stamped = λ c i generation b m k cell there lt. ⊎_elim (λ y. let z = f.stamped c i generation b m k cell there lt (inl y) in omega arith) (λ y. none_waits None y.0 (refer (i + 1) generation) refl y.1);
      scan = f.scan;
    })

-- the lower end: the guard ends, or starts anew, and holds nothing
abbrev emptied : Guard → ℕ → Bool → ℕ → ℕ → ℕ → ℕ → Guard
emptied g v active start_taken_out start_updates start_step epoch = record g {
  active = active;
  start_taken_out = start_taken_out;
  start_updates = start_updates;
  start_step = start_step;
  epoch = epoch;
  announced = set g.announced 0 v;
  holds = map nothing_at g.holds;
  pending = None;
}

empties : (setup : Setup) (x : SchemeInput) (d v : ℕ) (active : Bool) (taken updates step epoch : ℕ) (g : Guard) → IsSafe setup x → GuardsFit IbrFits setup x → At x.guards d g → v ≤ x.epoch → GuardsFit IbrFits setup (with_guard x d (emptied g v active taken updates step epoch))
empties setup x d v active taken updates step epoch g safe h at le = let new : Guard = emptied g v active taken updates step epoch in let four = safe.words d g at in
    let low : word_of new 0 ≡ v = get_or-set_same g.announced 0 v 0 (omega arith) in let up : word_of new 1 ≡ word_of g 1 = get_or-set_other g.announced 0 1 v 0 (λ e. omega arith) in
    changes setup x d g new at h (stamped_on setup x d g at h) (λ i c generation b m stamp r cell y. ((λ z. empty_holds g.holds z.0 (refer (i + 1) generation) z.1), (λ z. none_waits None z.0 (refer (i + 1) generation) refl z.1))) (λ f. record {
      lower = omega arith;
      upper = let z = f.upper in omega arith;
      top = f.top;
      limit = f.limit;
      read = f.read;
      outside = λ e. (empty_holds g.holds, refl);
      holds = λ t e. absurd (empty_holds g.holds e.0 t e.1);
      waits = λ p t e. none_waits None p t refl e;
      stamped = λ c i generation b m k cell there lt. ⊎_elim (λ y. absurd (empty_holds g.holds y.0 (refer (i + 1) generation) y.1)) (λ y. none_waits None y.0 (refer (i + 1) generation) refl y.1);
      scan = f.scan;
    })

pub stores_so : (setup : Setup) (x : SchemeInput) (d k v step updates : ℕ) (g : Guard) → IsSafe setup x → GuardsFit IbrFits setup x → At x.guards d g → IbrMayStore setup g k v → GuardsFit IbrFits setup (with_guard x d (ibr_stored (moment x updates) g step k v))
stores_so setup x d k v step updates g safe h at may = ⊎_elim
    (λ p. subst (λ (j : ℕ). GuardsFit IbrFits setup (with_guard x d (ibr_stored (moment x updates) g step j v))) (sym p.0) (raises setup x d v g safe h at p.1))
    (λ p. subst (λ (j : ℕ). GuardsFit IbrFits setup (with_guard x d (ibr_stored (moment x updates) g step j v))) (sym p.0) (by (eqb v 0) (let top = (h d g at).top in ⊎_elim (λ z. omega arith) (λ z. let y = z.0 in omega arith) p.1))) may
  where
    by : (a : Bool) → v ≤ x.epoch → GuardsFit IbrFits setup (with_guard x d (cond a (left g 0 v) (entered (moment x updates) g step 0 v)))
    by true le = empties setup x d v false g.start_taken_out g.start_updates g.start_step g.epoch g safe h at le
    by false le = empties setup x d v true (length x.taken_out) updates step x.epoch g safe h at le

pub stored_so : (setup : Setup) (m : Moment) (g : Guard) (step k v : ℕ) → IbrMayStore setup g k v → HasStored m g (ibr_stored m g step k v) (ibr_begins g k v) step k v
stored_so setup m g step k v may = ⊎_elim
    (λ p. let upper : HasStored m g (ibr_stored m g step 1 v) (ibr_begins g 1 v) step 1 v = record { holds = λ p t e. (e, refl); many = refl; words = refl; start = record { taken_out = refl; updates = refl; step = refl }; waits = refl } in
    subst (λ (j : ℕ). HasStored m g (ibr_stored m g step j v) (ibr_begins g j v) step j v) (sym p.0) upper)
    (λ p. subst (λ (j : ℕ). HasStored m g (ibr_stored m g step j v) (ibr_begins g j v) step j v) (sym p.0) (by (eqb v 0))) may
  where
    by : (a : Bool) → HasStored m g (cond a (left g 0 v) (entered m g step 0 v)) (cond a false true) step 0 v
    by true = leaves m g step 0 v
    by false = enters m g step 0 v
