-- A load of the epoch that finds the last reading again, and one of an announcement, leave all records.
use Rattle.std.proofs.Common.{◌≡◌, ℕ, ◌+◌, ◌*◌, ◌<◌, ◌≤◌, List, [], ◌∷◌, ◌++◌, append-nil, get_or, Bool, true, false, cond, eqb, sym, refl, ap, ◌∙◌, subst, arith, ⊎_elim}
use Rattle.std.specs.Prelude.{◌&&◌, not, nat_lt}
use Rattle.std.proofs.lemmas.Bool.{eq-eqb, ne_eqb, ltb-true}
use Rattle.record_memory.specs.declared.steps.Word.{Word}
use Rattle.record_memory.specs.declared.steps.Word.TheVariants.{Announced}
use Rattle.record_memory.specs.declared.steps.Step.{Step}
use Rattle.record_memory.specs.declared.books.Setup.{Setup}
use Rattle.record_memory.specs.declared.books.View.{View}
use Rattle.record_memory.specs.declared.books.Guard.{Guard}
use Rattle.record_memory.specs.Memory.{word_at}
use Rattle.row_words.specs.declared.links.Freed.{Freed}
use Rattle.record_rule.specs.Facts.{LimboRecord}
use Rattle.record_rule.specs.Kinds.{control_load}
use Rattle.record_rule.specs.Links.{with_step}
use Rattle.record_rule.specs.Freeing.{freed_from, count_freed, guard_loaded, LoadedControl, LoadedBy}
use Rattle.reclaim_api.specs.Frames.{LeavesRecords}
use Rattle.reclaim_api.specs.Bags.{bag_count}
use Rattle.reclaim_api.specs.StepForms.{epoch_load, announcement_load}
use Rattle.reclaim_api.proofs.Bagged.{fewer, all_stay}
use Rattle.guard_facts.specs.Announcing.{reading}
use Rattle.debra_facts.specs.Rounds.{is_passed, one_passed, reads_anew}
use Rattle.debra_facts.specs.Debra.{debra}
use Rattle.reclaim_debra.specs.declared.bags.Bags.{Bags}
use Rattle.reclaim_debra.specs.LocalParts.{is_other, KeepsBags}
use Rattle.reclaim_debra.specs.Running.{same, Looks, no_look, one_look}
use Rattle.reclaim_debra.specs.Entering.{HasRead, HasLooked}
use Rattle.reclaim_debra.specs.Stamped.{bags_stay}

-- no record of the three bags is below the third reading
below_other : (n a b c : ℕ) → b < a → c ≤ b → nat_lt n c ≡ true → (not (eqb n a) && (not (eqb n b) && not (eqb n c))) ≡ true
below_other n a b c up le lt = let l = ltb-true n c lt in
    (λ k. not (ne_eqb n a (λ e. omega arith) k) && (not (ne_eqb n b (λ e. omega arith) k) && not (ne_eqb n c (λ e. omega arith) k)))

module _ (l : Bags) (v : View) (b : KeepsBags l v) where
  -- the readings
  pub reads_first : reading v.own.guard 0 ≡ l.reading
  reads_first = ap (λ (r : List ℕ). get_or r 0 0) b.readings

  pub reads_second : reading v.own.guard 1 ≡ b.second
  reads_second = ap (λ (r : List ℕ). get_or r 1 0) b.readings

  pub reads_third : reading v.own.guard 2 ≡ b.third
  reads_third = ap (λ (r : List ℕ). get_or r 2 0) b.readings

  pub third_low : b.third ≤ b.second
  third_low = ⊎_elim (λ p. (let z : b.third < b.second = p in omega arith)) (λ q. (let z = q.0 in omega arith)) b.rose

  -- so nothing is below the third
  none_below : (n : ℕ) → n ≡ b.third → bag_count (λ (x : LimboRecord). nat_lt x.stamp n) v.own ≡ 0
  none_below n is = let few = fewer (λ (x : LimboRecord). nat_lt x.stamp n) (is_other l.reading b.second b.third) (λ x lt. below_other x.stamp l.reading b.second b.third b.rise third_low (ap (λ (m : ℕ). nat_lt x.stamp m) (sym is) ∙ lt)) 0 v.own.mine in
      let none = b.no_other in omega arith

  module _ (word n : ℕ) (w : View) (told : LoadedControl debra v word n w) (third_is : reading (guard_loaded debra v word n told.moment) 2 ≡ b.third) where
    pub loaded_is : w ≡ record v { own = record (with_step v.own v.setup.records (control_load v word n)) { guard = guard_loaded debra v word n told.moment } }
    loaded_is = told.view ∙ (λ k. record v { own = record (with_step v.own v.setup.records (control_load v word n)) { mine = stay k; moves = record v.own.moves { freed = freed k }; guard = guard_loaded debra v word n told.moment } })
      where
        none : count_freed (debra.may_free v.setup (guard_loaded debra v word n told.moment)) 0 v.own.mine ≡ 0
        none = none_below (reading (guard_loaded debra v word n told.moment) 2) third_is

        stay : freed_from (debra.may_free v.setup (guard_loaded debra v word n told.moment)) 0 v.own.mine ≡ v.own.mine
        stay = all_stay (debra.may_free v.setup (guard_loaded debra v word n told.moment)) 0 v.own.mine none

        freed : v.own.moves.freed + count_freed (debra.may_free v.setup (guard_loaded debra v word n told.moment)) 0 v.own.mine ≡ v.own.moves.freed
        freed = let z = none in omega arith

-- the guard at another place of the scan, where all else is as it was
pub bags_at : (l : Bags) (v w : View) (g : Guard) (t : Step) → w ≡ record v { own = record (with_step v.own v.setup.records t) { guard = g } } → g.readings ≡ v.own.guard.readings → KeepsBags l v → KeepsBags (record l { place = g.scan_place }) w
bags_at l v w g t is readings b = subst (KeepsBags (record l { place = g.scan_place })) (sym is) (bags_stay l v (record v { own = record (with_step v.own v.setup.records t) { guard = g } }) g.scan_place refl (λ i h known q. known) (λ u. refl) readings refl b)

pub records_at : (v w : View) (g : Guard) (t : Step) → w ≡ record v { own = record (with_step v.own v.setup.records t) { guard = g } } → LeavesRecords v w
records_at v w g t is = subst (LeavesRecords v) (sym is) record { mine = refl; moves = refl; answered = refl; locks = refl; front = refl }

-- No announcement was there to look at
pub looked_none : (setup : Setup) (l : Bags) (v : View) (e : ℕ) → KeepsBags l v → setup.callers ≤ l.place → HasLooked setup v e l.place l.place v
looked_none setup l v e b all = record {
  place = ap (λ (p : ℕ). record v.own.guard { scan_place = p }) b.place;
  looked = [];
  looks = no_look all;
  steps = sym (append-nil v.own.steps);
}

-- Where the scan goes on to
abbrev pub place_then : Bags → Bool → ℕ
place_then l passed = cond passed (l.place + 1) l.place

module _ (l : Bags) (v : View) (b : KeepsBags l v) (word n : ℕ) (w : View) (is : word_at v.setup.callers word ≡ Announced (4 * l.place)) (told : LoadedBy debra v (word_at v.setup.callers word) word n w) where
  told_word : LoadedControl debra v word n w
  told_word = subst (λ (x : Word). LoadedBy debra v x word n w) is told

  abbrev guard_at : Bool → Guard
  guard_at passed = record v.own.guard { scan_place = place_then l passed }

  -- the guard that it leaves
  guard_is : (passed : Bool) → is_passed l.reading n ≡ passed → guard_loaded debra v word n told_word.moment ≡ guard_at passed
  guard_is passed e = ap (λ (x : Word). debra.loaded v.setup told_word.moment v.own.caller v.own.guard x n) is
      ∙ ap (λ (c : Bool). cond c (cond (is_passed (reading v.own.guard 0) n) (one_passed v.own.guard) v.own.guard) v.own.guard) (eq-eqb (4 * l.place) (4 * v.own.guard.scan_place) (ap (λ (p : ℕ). 4 * p) (sym b.place)))
      ∙ ap (λ (r : ℕ). cond (is_passed r n) (one_passed v.own.guard) v.own.guard) (reads_first l v b) ∙ ap (λ (c : Bool). cond c (one_passed v.own.guard) v.own.guard) e ∙ by passed
    where
      by : (p : Bool) → cond p (one_passed v.own.guard) v.own.guard ≡ guard_at p
      by true = ap (λ (k : ℕ). record v.own.guard { scan_place = k + 1 }) b.place
      by false = ap (λ (k : ℕ). record v.own.guard { scan_place = k }) b.place

  abbrev step : Step
  step = control_load v word n

  -- all that it leaves
  after : (passed : Bool) → is_passed l.reading n ≡ passed → w ≡ record v { own = record (with_step v.own v.setup.records step) { guard = guard_at passed } }
  after passed e = loaded_is l v b word n w told_word (ap (λ (g : Guard). reading g 2) (guard_is passed e) ∙ reads_third l v b) ∙ ap (λ (g : Guard). record v { own = record (with_step v.own v.setup.records step) { guard = g } }) (guard_is passed e)

  pub looked_bags : (passed : Bool) → is_passed l.reading n ≡ passed → KeepsBags (record l { place = place_then l passed }) w
  looked_bags passed e = bags_at l v w (guard_at passed) step (after passed e) refl b

  pub looked_rest : (passed : Bool) → is_passed l.reading n ≡ passed → LeavesRecords v w
  looked_rest passed e = records_at v w (guard_at passed) step (after passed e)

  pub looked_one : (setup : Setup) → l.place < setup.callers → (passed : Bool) → is_passed l.reading n ≡ passed → HasLooked setup v l.reading l.place (place_then l passed) w
  looked_one setup lt passed e = record {
    place = ap (λ (x : View). x.own.guard) (after passed e);
    looked = announcement_load v.own l.place n ∷ [];
    looks = subst (λ (c : Bool). Looks setup v.own l.reading l.place (announcement_load v.own l.place n ∷ []) (place_then l c)) e (one_look lt n);
    steps = ap (λ (x : View). x.own.steps) (after passed e) ∙ ap (λ (x : Word). v.own.steps ++ record step { word = x } ∷ []) is;
  }

-- The same epoch was read again
module _ (l : Bags) (v : View) (b : KeepsBags l v) (e : ℕ) (u : View) (told : LoadedControl debra v 1 e u) (is : e ≡ l.reading) where
  guard_stays : guard_loaded debra v 1 e told.moment ≡ v.own.guard
  guard_stays = ap (λ (c : Bool). cond c v.own.guard (reads_anew v.own.guard e)) (eq-eqb e (reading v.own.guard 0) (is ∙ sym (reads_first l v b)))

  read_is : u ≡ record v { own = record (with_step v.own v.setup.records (control_load v 1 e)) { guard = v.own.guard } }
  read_is = loaded_is l v b 1 e u told (ap (λ (g : Guard). reading g 2) guard_stays ∙ reads_third l v b) ∙ ap (λ (g : Guard). record v { own = record (with_step v.own v.setup.records (control_load v 1 e)) { guard = g } }) guard_stays

  pub again_bags : KeepsBags l u
  again_bags = subst (λ (p : ℕ). KeepsBags (record l { place = p }) u) b.place (bags_at l v u v.own.guard (control_load v 1 e) read_is refl b)

  pub again_rest : LeavesRecords v u
  again_rest = records_at v u v.own.guard (control_load v 1 e) read_is

  pub again_setup : u.setup ≡ v.setup
  again_setup = ap (λ (x : View). x.setup) read_is

  pub again_read : (f : Freed) → f.freed ≡ 0 → f.spent ≡ 0 → HasRead v l.reading f u
  again_read f freed spent = record {
    made = [];
    steps = ap (λ (x : View). x.own.steps) read_is ∙ ap (λ (n : ℕ). v.own.steps ++ epoch_load v.own n ∷ []) is;
    guard = ap (λ (x : View). x.own.guard) read_is ∙ sym (ap (λ (c : Bool). cond c v.own.guard (reads_anew v.own.guard l.reading)) (eq-eqb l.reading (reading v.own.guard 0) (sym (reads_first l v b))));
    shifts = same (sym (reads_first l v b)) record { steps = refl; readings = ap (λ (x : View). x.own.guard.readings) read_is; mine = ap (λ (x : View). x.own.mine) read_is; freed = (freed, spent) };
    counted = subst (λ (x : View). x.own.caller < x.setup.callers) (sym read_is) told.counted;
  }
