-- A load of the epoch keeps DEBRA's facts.
use Rattle.std.proofs.Common.{◌≡◌, ◌≢◌, ℕ, ◌<◌, [], ◌∷◌, cond, eqb, Bool, true, false, sym, refl, ◌∙◌, arith, inl}
use Rattle.std.proofs.lemmas.Bool.{eqb-false}
use Rattle.record_memory.specs.declared.books.Setup.{Setup}
use Rattle.record_memory.specs.declared.books.Guard.{Guard}
use Rattle.record_rule.specs.Inputs.{SchemeInput}
use Rattle.record_rule.specs.Facts.{At}
use Rattle.record_rule.specs.Laws.{with_guard, HasLoaded}
use Rattle.guard_facts.specs.Announcing.{reading, GuardsFit}
use Rattle.guard_facts.proofs.Replaced.{holds_on}
use Rattle.debra_facts.specs.Rounds.{reads_anew, debra_at}
use Rattle.debra_facts.specs.Debra.{DebraFits}
use Rattle.debra_facts.proofs.Fits.{active_as, first_reading, second_reading, guards_over}

reads_as : (setup : Setup) (x : SchemeInput) (d n : ℕ) (g : Guard) → GuardsFit DebraFits setup x → At x.guards d g → x.epoch ≡ n → (b : Bool) → eqb n (reading g 0) ≡ b → GuardsFit DebraFits setup (with_guard x d (cond b g (reads_anew g n)))
reads_as setup x d n g h at is true e = guards_over setup x d g g at (active_as x g g refl refl) h (λ f. record {
  v = f.v;
  w = f.w;
  u = f.u;
  readings = f.readings;
  rise = f.rise;
  rose = f.rose;
  read = f.read;
  limit = f.limit;
  quiet = f.quiet;
  active = f.active;
  bags = f.bags;
  place = f.place;
  scanned = f.scanned;
  late = f.late;
  stands = f.stands;
})
reads_as setup x d n g h at is false e = let new : Guard = reads_anew g n in guards_over setup x d g new at (active_as x g new refl refl) h (λ f.
    let one = first_reading setup (with_guard x d new) d g f in let two = second_reading setup (with_guard x d new) d g f in let other = eqb-false n (reading g 0) e in
    let up : f.v < n = (let r = f.read in let ne : n ≢ f.v = (λ q. other (q ∙ sym one)) in omega arith) in record {
      v = n;
      w = f.v;
      u = f.w;
      readings = λ j. n ∷ one j ∷ two j ∷ [];
      rise = up;
      rose = inl f.rise;
      read = omega arith;
      limit = f.limit;
      quiet = f.quiet;
      active = f.active;
      -- what was retired by now has an epoch of at most this one, and each bag is the next older one
      bags = λ i c b m stamp r there. let q = f.bags i c b m stamp r there in (q.0, (λ _. let z = q.0 in omega arith), q.1, q.2);
      place = omega arith;
      scanned = λ j k lt. absurd (omega arith);
      late = f.late;
      stands = f.stands;
    })

pub reads : (setup : Setup) (x : SchemeInput) (d n : ℕ) (g : Guard) → GuardsFit DebraFits setup x → At x.guards d g → x.epoch ≡ n → GuardsFit DebraFits setup (with_guard x d (debra_at g n))
reads setup x d n g h at is = reads_as setup x d n g h at is (eqb n (reading g 0)) refl

read_as : (x : SchemeInput) (n : ℕ) (g : Guard) (b : Bool) → HasLoaded x g (cond b g (reads_anew g n))
read_as x n g true = holds_on x g g refl refl refl record { taken_out = refl; updates = refl; step = refl }
read_as x n g false = holds_on x g (reads_anew g n) refl refl refl record { taken_out = refl; updates = refl; step = refl }

pub read_so : (x : SchemeInput) (n : ℕ) (g : Guard) → HasLoaded x g (debra_at g n)
read_so x n g = read_as x n g (eqb n (reading g 0))
