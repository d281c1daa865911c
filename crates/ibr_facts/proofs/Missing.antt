-- What passes the test of a whole scan: each caller's loaded ends miss it, so each caller lacks it.
use Rattle.std.proofs.Common.{◌≡◌, ◌≢◌, ℕ, zero, suc, ◌+◌, ◌*◌, ◌<◌, ◌⊎◌, List, [], ◌∷◌, length, cond, eqb, ltb, Bool, true, false, Some, refl, subst, arith, ⊎_elim, inl, inr}
use Rattle.std.specs.Prelude.{not}
use Rattle.std.proofs.lemmas.Bool.{eqb-true, ltb-true}
use Rattle.record_memory.specs.declared.books.Setup.{Setup}
use Rattle.record_memory.specs.declared.books.Guard.{Guard}
use Rattle.row_words.specs.Refs.{RefParts, refer}
use Rattle.record_rule.specs.Inputs.{limbo, SchemeInput}
use Rattle.record_rule.specs.Facts.{At, LimboRecord}
use Rattle.record_rule.specs.Laws.{IsSafe, limbo_record}
use Rattle.record_rule.proofs.Lists.{below_at}
use Rattle.guard_facts.specs.Announcing.{GuardsFit}
use Rattle.ibr_facts.specs.Intervals.{EndsMiss, Lacks, IbrFits}
use Rattle.ibr_facts.specs.Keeping.{is_met, is_scanned, ibr_free, IbrCovered}
use Rattle.ibr_facts.proofs.Meeting.{named_so}

-- where a life is met by no pair, one of three tests passes by the first pair
first_misses : (a b c r : Bool) → cond a r (cond b r (cond c r true)) ≡ false → (r ≡ false) × ((a ≡ true) ⊎ ((b ≡ true) ⊎ (c ≡ true)))
first_misses true b c r e = (e, inl refl)
first_misses false true c r e = (e, inr (inl refl))
first_misses false false true r e = (e, inr (inr refl))
first_misses false false false r e = let none : ⊥ = cc in absurd none

one_pair_on : (l u : ℕ) (rest : List ℕ) (c b stamp : ℕ) → EndsMiss rest c b stamp → EndsMiss (l ∷ u ∷ rest) (suc c) b stamp
one_pair_on l u rest c b stamp m = ⊎_elim (λ y. inl (y.0, subst (λ (z : ℕ). At (l ∷ u ∷ rest) z y.0) (let z : suc (suc (2 * c)) ≡ 2 * suc c = omega arith in z) y.1, y.2))
    (λ y. inr (y.0, subst (λ (z : ℕ). At (l ∷ u ∷ rest) z y.0) (let z : suc (suc (2 * c + 1)) ≡ 2 * suc c + 1 = omega arith in z) y.1, y.2)) m

-- then each pair misses it
ends_miss : (vs : List ℕ) (b stamp c : ℕ) → 2 * c + 1 < length vs → is_met vs b stamp ≡ false → EndsMiss vs c b stamp
ends_miss [] b stamp c lt e = absurd (omega arith)
ends_miss (l ∷ []) b stamp c lt e = absurd (omega arith)
ends_miss (l ∷ (u ∷ rest)) b stamp zero lt e = ⊎_elim (λ p. inl (l, refl, inl (eqb-true l 0 p))) (λ q. ⊎_elim (λ p. inl (l, refl, inr (ltb-true stamp l p))) (λ p. inr (u, refl, ltb-true u b p)) q)
    (first_misses (eqb l 0) (ltb stamp l) (ltb u b) (is_met rest b stamp) e).1
ends_miss (l ∷ (u ∷ rest)) b stamp (suc c) lt e = one_pair_on l u rest c b stamp (ends_miss rest b stamp c (omega arith) (first_misses (eqb l 0) (ltb stamp l) (ltb u b) (is_met rest b stamp) e).0)

-- who passes the test
free_is : (setup : Setup) (g : Guard) (n : LimboRecord) → ibr_free setup g n ≡ true → (length g.loaded ≡ 2 * setup.callers) × (is_met g.loaded n.birth n.stamp ≡ false)
free_is setup g n free = by (is_scanned setup g) refl free
  where
    off : (b : Bool) → not b ≡ true → b ≡ false
    off true e = let none : ⊥ = cc in absurd none
    off false e = refl

    by : (b : Bool) → is_scanned setup g ≡ b → cond b (not (is_met g.loaded n.birth n.stamp)) false ≡ true → (length g.loaded ≡ 2 * setup.callers) × (is_met g.loaded n.birth n.stamp ≡ false)
    by true e f = (eqb-true (length g.loaded) (2 * setup.callers) e, off (is_met g.loaded n.birth n.stamp) f)
    by false e f = let none : ⊥ = cc in absurd none

pub all_lack : (setup : Setup) (x : SchemeInput) (i d generation b n stamp r e : ℕ) (g k : Guard) → IsSafe setup x → GuardsFit IbrFits setup x → At x.guards d g → At x.cells i (limbo d generation b n stamp r)
    → ibr_free setup g (limbo_record i generation b stamp) ≡ true → At x.guards e k → Lacks x k (refer (i + 1) generation)
all_lack setup x i d generation b n stamp r e g k safe h at cell free there = let full = free_is setup g (limbo_record i generation b stamp) free in let l = below_at x.guards e k there in let m = safe.callers in
    (h d g at).scan i generation b n stamp r e k cell there (ends_miss g.loaded b stamp e (let z = full.0 in omega arith) full.1)

-- so nobody holds it
pub nobody_holds : (setup : Setup) (x : SchemeInput) (i d generation b n stamp r : ℕ) (g : Guard) → IsSafe setup x → IbrCovered setup x → At x.guards d g → At x.cells i (limbo d generation b n stamp r) → ibr_free setup g (limbo_record i generation b stamp) ≡ true
    → (e p : ℕ) (k : Guard) (t : RefParts) → At x.guards e k → At k.holds p (Some t) → t.index ≢ i + 1
nobody_holds setup x i d generation b n stamp r g safe h at cell free e p k t there hold same = let w = safe.holds e p k t there hold in let name = named_so x i d generation b n stamp r k.start_taken_out t w.0 cell w.1 (omega arith) w.2 w.3 in
    (all_lack setup x i d generation b n stamp r e g k safe h.0 at cell free there).0 (p, subst (λ (z : RefParts). At k.holds p (Some z)) name hold)
