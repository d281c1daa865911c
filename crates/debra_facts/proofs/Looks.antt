-- A look at an announcement keeps DEBRA's facts: whom the scan passes is quiet, or active at no older epoch.
use Rattle.std.proofs.Common.{◌≡◌, ℕ, ◌+◌, ◌*◌, ◌%◌, ◌<◌, ◌≤◌, ◌⊎◌, length, cond, eqb, Bool, true, false, sym, refl, ap, ◌∙◌, subst, arith, ⊎_elim}
use Rattle.std.proofs.lemmas.Bool.{eqb-true}
use Rattle.atomic_table.proofs.Lists.{at_set}
use Rattle.record_memory.specs.declared.books.Setup.{Setup}
use Rattle.record_memory.specs.declared.books.Guard.{Guard}
use Rattle.record_memory.specs.declared.steps.Word.{Word}
use Rattle.record_memory.specs.declared.steps.Word.TheVariants.{Epoch, Announced}
use Rattle.record_rule.specs.Inputs.{SchemeInput}
use Rattle.record_rule.specs.Facts.{At, Moment}
use Rattle.record_rule.specs.Laws.{moment, with_guard, IsSafe, ValueIs, HasLoaded}
use Rattle.record_rule.proofs.Lists.{below_at, get_at, one_at}
use Rattle.guard_facts.specs.Announcing.{word_of, reading, GuardsFit}
use Rattle.guard_facts.proofs.Replaced.{holds_on}
use Rattle.debra_facts.specs.Rounds.{is_passed, one_passed, debra_loaded}
use Rattle.debra_facts.specs.Debra.{DebraFits}
use Rattle.debra_facts.proofs.Fits.{active_as, first_reading, guards_over, stays_so}
use Rattle.debra_facts.proofs.Readings.{reads, read_so}

-- an announcement that was passed is of a caller that is quiet, or active at this epoch or a later one
passed_by : (setup : Setup) (x : SchemeInput) (e n : ℕ) (k : Guard) (v : ℕ) → DebraFits setup x e k → word_of k 0 ≡ n → is_passed v n ≡ true → k.active ≡ true → v ≤ k.epoch
passed_by setup x e n k v f is passed on = by (eqb (n % 2) 0) refl passed
  where
    by : (b : Bool) → eqb (n % 2) 0 ≡ b → cond b true (eqb n (2 * v + 1)) ≡ true → v ≤ k.epoch
    by true even _ = let a = f.active on in let z = eqb-true (n % 2) 0 even in let w = a.1 in absurd (omega arith)
    by false odd same = let a = f.active on in let z = eqb-true n (2 * v + 1) same in let w = a.1 in let le = a.2 in omega arith

split_last : (i n : ℕ) → i < n + 1 → (i < n) ⊎ (i ≡ n)
split_last i n lt = grind arith

-- a caller below the new place was below the old one, or is the one that was passed
passes : (setup : Setup) (x : SchemeInput) (d k n : ℕ) (g : Guard) → length x.guards ≡ setup.callers → GuardsFit DebraFits setup x → At x.guards d g → ValueIs x (Announced k) n → k ≡ 4 * g.scan_place → is_passed (reading g 0) n ≡ true
    → GuardsFit DebraFits setup (with_guard x d (one_passed g))
passes setup x d k n g many h at is spot passed = let new : Guard = one_passed g in
    let c : is.0 ≡ g.scan_place = (let z = is.3 in let y = is.4 in omega arith) in let j : is.1 ≡ 0 = (let z = is.3 in let y = is.4 in omega arith) in
    let word : word_of is.2 0 ≡ n = get_at is.2.announced 0 n 0 (subst (λ (z : ℕ). At is.2.announced z n) j is.6) in
    let by_word : (e : ℕ) (o : Guard) → e ≡ g.scan_place → At x.guards e o → o.active ≡ true → reading g 0 ≤ o.epoch =
    λ e o p there on. let same : is.2 ≡ o = one_at x.guards is.0 is.2 o is.5 (subst (λ (z : ℕ). At x.guards z o) (p ∙ sym c) there) in
    passed_by setup x e n o (reading g 0) (h e o there) (ap (λ (z : Guard). word_of z 0) (sym same) ∙ word) passed on in
    guards_over setup x d g new at (active_as x g new refl refl) h (λ f. let one = first_reading setup (with_guard x d new) d g f in record {
      v = f.v;
      w = f.w;
      u = f.u;
      readings = f.readings;
      rise = f.rise;
      rose = f.rose;
      read = f.read;
      limit = f.limit;
      quiet = f.quiet;
      active = f.active;
      bags = f.bags;
      place = let l = below_at x.guards is.0 is.2 is.5 in omega arith;
      scanned = λ e o lt there on. ⊎_elim (λ (p : e < g.scan_place). f.scanned e o p there on)
          (λ (p : e ≡ g.scan_place). subst (λ (z : ℕ). z ≤ o.epoch) one (⊎_elim
          (λ y. subst (λ (z : Guard). reading g 0 ≤ z.epoch) y.1 (by_word d g (sym y.0 ∙ p) at (ap (λ (z : Guard). z.active) y.1 ∙ on)))
          (λ y. by_word e o p y.1 on) (at_set x.guards d e new o there)))
          (let lt' : e < g.scan_place + 1 = lt in split_last e g.scan_place lt');
      late = f.late;
      stands = f.stands;
    })

looks_as : (setup : Setup) (x : SchemeInput) (d k n : ℕ) (g : Guard) → length x.guards ≡ setup.callers → GuardsFit DebraFits setup x → At x.guards d g → ValueIs x (Announced k) n → (a b : Bool) → eqb k (4 * g.scan_place) ≡ a → is_passed (reading g 0) n ≡ b
    → GuardsFit DebraFits setup (with_guard x d (cond a (cond b (one_passed g) g) g))
looks_as setup x d k n g many h at is false b e q = stays_so setup x d g h at
looks_as setup x d k n g many h at is true false e q = stays_so setup x d g h at
looks_as setup x d k n g many h at is true true e q = passes setup x d k n g many h at is (eqb-true k (4 * g.scan_place) e) q

-- each load of a control word
pub loads_word : (setup : Setup) (x : SchemeInput) (d updates n : ℕ) (g : Guard) (word : Word) → IsSafe setup x → GuardsFit DebraFits setup x → At x.guards d g → ValueIs x word n → GuardsFit DebraFits setup (with_guard x d (debra_loaded setup (moment x updates) d g word n))
loads_word setup x d updates n g Epoch safe h at is = reads setup x d n g h at is
loads_word setup x d updates n g (Announced k) safe h at is = looks_as setup x d k n g safe.callers h at is (eqb k (4 * g.scan_place)) (is_passed (reading g 0) n) refl refl
loads_word setup x d updates n g word safe h at is = stays_so setup x d g h at

same_so : (x : SchemeInput) (g : Guard) → HasLoaded x g g
same_so x g = holds_on x g g refl refl refl record { taken_out = refl; updates = refl; step = refl }

looked_as : (x : SchemeInput) (g : Guard) (a b : Bool) → HasLoaded x g (cond a (cond b (one_passed g) g) g)
looked_as x g true true = holds_on x g (one_passed g) refl refl refl record { taken_out = refl; updates = refl; step = refl }
looked_as x g true false = same_so x g
looked_as x g false b = same_so x g

pub loaded_word : (setup : Setup) (x : SchemeInput) (m : Moment) (d n : ℕ) (g : Guard) (word : Word) → HasLoaded x g (debra_loaded setup m d g word n)
loaded_word setup x m d n g Epoch = read_so x n g
loaded_word setup x m d n g (Announced k) = looked_as x g (eqb k (4 * g.scan_place)) (is_passed (reading g 0) n)
loaded_word setup x m d n g word = same_so x g
