-- A scan loads the next end: whom the loaded ends miss lacks the record.
use Rattle.std.proofs.Common.{◌≡◌, ℕ, ◌+◌, ◌*◌, ◌/◌, ◌%◌, ◌<◌, ◌⊎◌, List, [], ◌∷◌, ◌++◌, length, get_or, set, cond, eqb, Bool, true, false, sym, refl, ap, ◌∙◌, subst, arith, ⊎_elim, inl, inr}
use Rattle.std.proofs.lemmas.Bool.{eqb-true}
use Rattle.record_memory.specs.declared.books.Setup.{Setup}
use Rattle.record_memory.specs.declared.books.Guard.{Guard}
use Rattle.record_memory.specs.declared.steps.Word.TheVariants.{Announced}
use Rattle.record_rule.specs.Inputs.{SchemeInput}
use Rattle.record_rule.specs.Facts.{At}
use Rattle.record_rule.specs.Laws.{with_guard, ValueIs, HasLoaded, HasCleared}
use Rattle.record_rule.proofs.Lists.{each_set, get_at, one_at}
use Rattle.record_rule.proofs.Seats.{at_end}
use Rattle.guard_facts.specs.Announcing.{word_of, GuardsFit}
use Rattle.guard_facts.proofs.Replaced.{holds_on}
use Rattle.ibr_facts.specs.Intervals.{EndsMiss, IbrFits}
use Rattle.ibr_facts.specs.Keeping.{ibr_scanned}
use Rattle.ibr_facts.proofs.Meeting.{lacks_missed}
use Rattle.ibr_facts.proofs.Guarding.{changes, stamped_on, fits_unscanned, same_guards}

-- one more loaded end: that of the guard k of caller c, its lower one or its upper one
ends_more : (loaded : List ℕ) (n c j b stamp : ℕ) (k : Guard) → c ≡ length loaded / 2 → j ≡ length loaded % 2 → word_of k j ≡ n → (e : ℕ) (o : Guard) → (e ≡ c → k.announced ≡ o.announced) → EndsMiss (loaded ++ n ∷ []) e b stamp
    → EndsMiss loaded e b stamp ⊎ (((word_of o 0 ≡ 0) ⊎ (stamp < word_of o 0)) ⊎ (word_of o 1 < b))
ends_more loaded n c j b stamp k who which is e o words = ⊎_elim
    (λ l. ⊎_elim (λ y. inl (inl (l.0, y, l.2))) (λ y. let low : word_of o 0 ≡ l.0 = end_is e o 0 (let z = y.0 in omega arith) (let z = y.0 in omega arith) words ∙ y.1 in
    inr (inl (⊎_elim (λ (off : l.0 ≡ 0). inl (low ∙ off)) (λ (lt : stamp < l.0). inr (omega arith)) l.2))) (at_end loaded n l.0 (2 * e) l.1))
    (λ u. ⊎_elim (λ y. inl (inr (u.0, y, u.2))) (λ y. let up : word_of o 1 ≡ u.0 = end_is e o 1 (let z = y.0 in omega arith) (let z = y.0 in omega arith) words ∙ y.1 in
    inr (inr (let lt = u.2 in omega arith))) (at_end loaded n u.0 (2 * e + 1) u.1))
  where
    end_is : (e : ℕ) (o : Guard) (i : ℕ) → e ≡ c → j ≡ i → (e ≡ c → k.announced ≡ o.announced) → word_of o i ≡ n
    end_is e o i here same words = sym (ap (λ (z : List ℕ). get_or z i 0) (words here)) ∙ ap (word_of k) (sym same) ∙ is

-- a guard of which another has all but what it scanned
abbrev IsAlike : Setup → SchemeInput → ℕ → Guard → Type 0
IsAlike setup x e o = IbrFits setup x e (record o { loaded = [] }) × ((k : Guard) → At x.guards e k → k.announced ≡ o.announced)

scans_end : (setup : Setup) (x : SchemeInput) (d k n : ℕ) (g : Guard) → GuardsFit IbrFits setup x → At x.guards d g → ValueIs x (Announced k) n → k ≡ 4 * (length g.loaded / 2) + length g.loaded % 2 → GuardsFit IbrFits setup (with_guard x d (record g { loaded = g.loaded ++ n ∷ [] }))
scans_end setup x d k n g h at is spot = changes setup x d g new at h (stamped_on setup x d g at h) (λ i c generation b m stamp r cell y. y) (λ f. record {
  lower = f.lower;
  upper = f.upper;
  top = f.top;
  limit = f.limit;
  read = f.read;
  outside = f.outside;
  holds = f.holds;
  waits = f.waits;
  stamped = f.stamped;
  scan = λ i generation b m stamp r e o cell there misses. let like = alike e o there in
      ⊎_elim (λ y. f.scan i generation b m stamp r e o cell there y) (λ y. lacks_missed setup x i d e generation b m stamp r (record o { loaded = [] }) like.0 cell y)
      (ends_more g.loaded n is.0 is.1 b stamp is.2 who which (get_at is.2.announced is.1 n 0 is.6) e o (λ same. like.1 is.2 (subst (λ (z : ℕ). At x.guards z is.2) (sym same) is.5)) misses);
})
  where
    new : Guard
    new = record g { loaded = g.loaded ++ n ∷ [] }

    who : is.0 ≡ length g.loaded / 2
    who = let z = is.3 in let y = is.4 in omega arith

    which : is.1 ≡ length g.loaded % 2
    which = let z = is.3 in let y = is.4 in omega arith

    alike : (e : ℕ) (o : Guard) → At (set x.guards d (record g { loaded = g.loaded ++ n ∷ [] })) e o → IsAlike setup x e o
    alike = each_set (IsAlike setup x) x.guards d (record g { loaded = g.loaded ++ n ∷ [] })
        (λ e o there. (fits_unscanned setup x e o (h e o there), λ k here. ap (λ (z : Guard). z.announced) (one_at x.guards e k o here there)))
        (fits_unscanned setup x d g (h d g at), λ k here. ap (λ (z : Guard). z.announced) (one_at x.guards d k g here at))

pub scans_word : (setup : Setup) (x : SchemeInput) (d k n : ℕ) (g : Guard) → GuardsFit IbrFits setup x → At x.guards d g → ValueIs x (Announced k) n → GuardsFit IbrFits setup (with_guard x d (ibr_scanned g k n))
scans_word setup x d k n g h at is = by (eqb k (4 * (length g.loaded / 2) + length g.loaded % 2)) refl
  where
    by : (a : Bool) → eqb k (4 * (length g.loaded / 2) + length g.loaded % 2) ≡ a → GuardsFit IbrFits setup (with_guard x d (cond a (record g { loaded = g.loaded ++ n ∷ [] }) g))
    by false q = same_guards setup x d g at h
    by true q = scans_end setup x d k n g h at is (eqb-true k (4 * (length g.loaded / 2) + length g.loaded % 2) q)

pub has_scanned : (x : SchemeInput) (g : Guard) (k n : ℕ) → HasLoaded x g (ibr_scanned g k n)
has_scanned x g k n = by (eqb k (4 * (length g.loaded / 2) + length g.loaded % 2))
  where
    by : (a : Bool) → HasLoaded x g (cond a (record g { loaded = g.loaded ++ n ∷ [] }) g)
    by true = holds_on x g (record g { loaded = g.loaded ++ n ∷ [] }) refl refl refl record { taken_out = refl; updates = refl; step = refl }
    by false = holds_on x g g refl refl refl record { taken_out = refl; updates = refl; step = refl }

-- once records left limbo, the scan is over
pub clears_so : (setup : Setup) (x : SchemeInput) (d : ℕ) (g : Guard) → GuardsFit IbrFits setup x → At x.guards d g → (a : Bool) → GuardsFit IbrFits setup (with_guard x d (cond a (record g { loaded = [] }) g))
clears_so setup x d g h at true = let new : Guard = record g { loaded = [] } in changes setup x d g new at h (stamped_on setup x d g at h) (λ i c generation b m stamp r cell y. y) (λ f. fits_unscanned setup (with_guard x d new) d g f)
clears_so setup x d g h at false = same_guards setup x d g at h

pub cleared_so : (g : Guard) (a : Bool) → HasCleared g (cond a (record g { loaded = [] }) g)
cleared_so g true = record { holds = refl; waits = refl; words = refl; start = record { taken_out = refl; updates = refl; step = refl } }
cleared_so g false = record { holds = refl; waits = refl; words = refl; start = record { taken_out = refl; updates = refl; step = refl } }
