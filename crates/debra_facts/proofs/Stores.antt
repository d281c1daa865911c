-- A store of the own announcement, and an exchange of the epoch, keep DEBRA's facts.
use Rattle.std.proofs.Common.{◌≡◌, ◌≢◌, ℕ, ◌+◌, ◌*◌, ◌%◌, ◌≤◌, ◌⊎◌, eqb, Bool, true, false, sym, refl, ap, ◌∙◌, subst, arith, ⊎_elim, inr, get_or-set_same}
use Rattle.std.proofs.lemmas.Bool.{eqb-true, eqb-false}
use Rattle.record_memory.specs.declared.books.Setup.{Setup}
use Rattle.record_memory.specs.declared.books.Guard.{Guard}
use Rattle.row_words.specs.Refs.{refer}
use Rattle.record_rule.specs.Inputs.{SchemeInput}
use Rattle.record_rule.specs.Facts.{At, Moment}
use Rattle.record_rule.specs.Laws.{moment, with_guard, IsSafe, HasStored}
use Rattle.record_rule.proofs.Lists.{below_at}
use Rattle.guard_facts.specs.Announcing.{reading, GuardsFit}
use Rattle.guard_facts.proofs.Replaced.{empty_holds, enters, leaves}
use Rattle.debra_facts.specs.Rounds.{DebraMayStore, starts_by, stored_as, debra_stored, DebraMayExchange}
use Rattle.debra_facts.specs.Debra.{DebraFits}
use Rattle.debra_facts.proofs.Fits.{false_true, first_reading, guards_over}

odd : (v r : ℕ) → {P : Type 0} → ((v ≡ 2 * r + 1) × P) ⊎ (v ≡ 2 * r) → v % 2 ≡ 1 → v ≡ 2 * r + 1
odd v r may e = ⊎_elim (λ p. p.0) (λ q. absurd (omega arith)) may

even : (v : ℕ) → v % 2 ≢ 1 → v % 2 ≡ 0
even v ne = omega arith

-- nothing was taken out behind a guard that starts now
fits_as : (setup : Setup) (x : SchemeInput) (d v step updates : ℕ) (g : Guard) → IsSafe setup x → GuardsFit DebraFits setup x → At x.guards d g → ((v ≡ 2 * reading g 0 + 1) × (g.active ≡ false)) ⊎ (v ≡ 2 * reading g 0) → (b : Bool) → eqb (v % 2) 1 ≡ b
    → GuardsFit DebraFits setup (with_guard x d (stored_as b (moment x updates) g step 0 v))
fits_as setup x d v step updates g safe h at may true e = let new : Guard = stored_as true (moment x updates) g step 0 v in let four = safe.words d g at in
    guards_over setup x d g new at (λ on. inr refl) h (λ f. let one = first_reading setup (with_guard x d new) d g f in record {
      v = f.v;
      w = f.w;
      u = f.u;
      readings = f.readings;
      rise = f.rise;
      rose = f.rose;
      read = f.read;
      limit = f.limit;
      quiet = λ off. let none : ⊥ = cc in absurd none;
      active = λ on. (reading g 0, get_or-set_same g.announced 0 v 0 (omega arith) ∙ odd v (reading g 0) may (eqb-true (v % 2) 1 e), (let z = f.read in omega arith), omega arith, omega arith);
      bags = f.bags;
      place = f.place;
      scanned = f.scanned;
      late = λ on c i a b n stamp r there le. let l = below_at x.taken_out n (refer (i + 1) a) (safe.retired i c a b n stamp r there) in absurd (omega arith);
      stands = λ on k t le there. let l = below_at x.taken_out k t there in absurd (omega arith);
    })
fits_as setup x d v step updates g safe h at may false e = let new : Guard = stored_as false (moment x updates) g step 0 v in let four = safe.words d g at in
    guards_over setup x d g new at (λ on. false_true on) h (λ f. record {
      v = f.v;
      w = f.w;
      u = f.u;
      readings = f.readings;
      rise = f.rise;
      rose = f.rose;
      read = f.read;
      limit = f.limit;
      quiet = λ off. (ap (λ (z : ℕ). z % 2) (get_or-set_same g.announced 0 v 0 (omega arith)) ∙ even v (eqb-false (v % 2) 1 e), empty_holds g.holds);
      active = λ on. false_true on;
      bags = f.bags;
      place = f.place;
      scanned = f.scanned;
      late = λ on. false_true on;
      stands = λ on. false_true on;
    })

pub stores_so : (setup : Setup) (x : SchemeInput) (d k v step updates : ℕ) (g : Guard) → IsSafe setup x → GuardsFit DebraFits setup x → At x.guards d g → DebraMayStore setup g k v → GuardsFit DebraFits setup (with_guard x d (debra_stored (moment x updates) g step k v))
stores_so setup x d k v step updates g safe h at may = subst (λ (j : ℕ). GuardsFit DebraFits setup (with_guard x d (debra_stored (moment x updates) g step j v))) (sym may.0) (fits_as setup x d v step updates g safe h at may.1 (eqb (v % 2) 1) refl)

stored_by : (m : Moment) (g : Guard) (step k v : ℕ) (b : Bool) → HasStored m g (stored_as b m g step k v) b step k v
stored_by m g step k v true = enters m g step k v
stored_by m g step k v false = leaves m g step k v

pub stored_so : (m : Moment) (g : Guard) (step k v : ℕ) → HasStored m g (debra_stored m g step k v) (starts_by g k v) step k v
stored_so m g step k v = stored_by m g step k v (starts_by g k v)

-- the scan passed all callers, so each active one is at this epoch, and the next one is one above it
pub exchanges_so : (setup : Setup) (x : SchemeInput) (d old new : ℕ) (g : Guard) → IsSafe setup x → GuardsFit DebraFits setup x → At x.guards d g → DebraMayExchange setup g old new → x.epoch ≡ old → GuardsFit DebraFits setup (record x { epoch = new })
exchanges_so setup x d old new g safe h at may is e k there = let f = h e k there in let mine = h d g at in let one = first_reading setup x d g mine in let all = may.0 in let last = may.1 in let up = may.3 in record {
  v = f.v;
  w = f.w;
  u = f.u;
  readings = f.readings;
  rise = f.rise;
  rose = f.rose;
  read = let r = f.read in omega arith;
  limit = let below = may.2 in omega arith;
  quiet = f.quiet;
  active = λ on. let q = f.active on in let s : mine.v ≤ k.epoch = mine.scanned e k (let l = below_at x.guards e k there in let m = safe.callers in omega arith) there on in let l = q.3 in (q.0, q.1, q.2, omega arith, omega arith);
  bags = λ i c b n stamp r y. let q = f.bags i c b n stamp r y in ((let z = q.0 in omega arith), q.1, q.2, q.3);
  place = f.place;
  scanned = f.scanned;
  late = f.late;
  stands = f.stands;
}
