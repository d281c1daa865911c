-- A scan that has loaded all words: nobody holds a record that it lets go.
use Rattle.std.proofs.Common.{◌≡◌, ◌≢◌, ℕ, zero, suc, ◌+◌, ◌-◌, ◌*◌, ◌/◌, ◌%◌, List, [], ◌∷◌, length, cond, eqb, Bool, true, false, Some, sym, refl, ap, ◌∙◌, subst, arith, inl}
use Rattle.std.specs.Prelude.{not}
use Rattle.std.proofs.lemmas.Bool.{eqb-true, eqb-false}
use mathlib.Core.Option.{some, some-injective}
use Rattle.record_memory.specs.declared.books.Setup.{Setup}
use Rattle.record_memory.specs.declared.books.Guard.{Guard}
use Rattle.row_words.specs.Refs.{RefParts, refer}
use Rattle.row_words.specs.Packing.{packed_ref}
use Rattle.record_rule.specs.Inputs.{SchemeCell, limbo, SchemeInput}
use Rattle.record_rule.specs.Facts.{At, LimboRecord}
use Rattle.record_rule.specs.Laws.{with_guard, IsThereAs, IsSafe, limbo_record, HasCleared}
use Rattle.record_rule.proofs.Lists.{below_at, at_below, one_at}
use Rattle.guard_facts.specs.Announcing.{GuardsFit}
use Rattle.hazard_facts.specs.Pointers.{is_named, has_scanned, hazard_free, hazard_cleared, HazardFits}
use Rattle.hazard_facts.proofs.Frames.{guard_over, same_guard}

still : (a b : Bool) → b ≡ true → cond a true b ≡ true
still true b h = refl
still false b h = h

-- one of the words names the record
named_at : (t : RefParts) (vs : List ℕ) (j : ℕ) → At vs j (packed_ref (Some t)) → is_named t vs ≡ true
named_at t [] j e = let none : ⊥ = cc in absurd none
named_at t (v ∷ vs) zero e = by (eqb v (packed_ref (Some t))) refl
  where
    by : (b : Bool) → eqb v (packed_ref (Some t)) ≡ b → cond b true (is_named t vs) ≡ true
    by true q = refl
    by false q = absurd (eqb-false v (packed_ref (Some t)) q (some-injective v (packed_ref (Some t)) e))
named_at t (v ∷ vs) (suc j) e = still (eqb v (packed_ref (Some t))) (is_named t vs) (named_at t vs j e)

-- what the test of limbo says
free_is : (setup : Setup) (g : Guard) (n : LimboRecord) → hazard_free setup g n ≡ true → (length g.loaded ≡ 3 * setup.callers) × (is_named n.reference g.loaded ≡ false)
free_is setup g n free = by (has_scanned setup g) refl free
  where
    off : (b : Bool) → not b ≡ true → b ≡ false
    off true e = let none : ⊥ = cc in absurd none
    off false e = refl

    by : (b : Bool) → has_scanned setup g ≡ b → cond b (not (is_named n.reference g.loaded)) false ≡ true → (length g.loaded ≡ 3 * setup.callers) × (is_named n.reference g.loaded ≡ false)
    by true e f = (eqb-true (length g.loaded) (3 * setup.callers) e, off (is_named n.reference g.loaded) f)
    by false e f = let none : ⊥ = cc in absurd none

-- a holder's word was loaded, and so it names the record
pub nobody_holds : (setup : Setup) (x : SchemeInput) (i d generation b n stamp r : ℕ) (g : Guard) → IsSafe setup x → GuardsFit HazardFits setup x → At x.guards d g → At x.cells i (limbo d generation b n stamp r) → hazard_free setup g (limbo_record i generation b stamp) ≡ true
    → (e p : ℕ) (k : Guard) (t : RefParts) → At x.guards e k → At k.holds p (Some t) → t.index ≢ i + 1
nobody_holds setup x i d generation b n stamp r g safe h at cell free e p k t there hold same = let w = safe.holds e p k t there hold in
    let here : At x.cells (t.index - 1) (limbo d generation b n stamp r) = subst (λ (z : ℕ). At x.cells z (limbo d generation b n stamp r)) (omega arith) cell in
    let alike : IsThereAs (limbo d generation b n stamp r) t.generation k.start_taken_out = subst (λ (c : SchemeCell). IsThereAs c t.generation k.start_taken_out) (one_at x.cells (t.index - 1) w.0 (limbo d generation b n stamp r) w.2 here) w.3 in
    let name : t ≡ refer (i + 1) generation = (λ z. record { index = same z; generation = sym alike.0 z }) in
    let full = free_is setup g (limbo_record i generation b stamp) free in let low = ((h e k there).names p t hold).0 in let j : ℕ = 3 * e + p in
    let there' : At x.guards (j / 3) k = subst (λ (z : ℕ). At x.guards z k) (let z : e ≡ (3 * e + p) / 3 = omega arith in z) there in
    let hold' : At k.holds (j % 3) (Some t) = subst (λ (z : ℕ). At k.holds z (Some t)) (let z : p ≡ (3 * e + p) % 3 = omega arith in z) hold in
    let v = at_below g.loaded j (let l = below_at x.guards e k there in let m = safe.callers in let f = full.0 in omega arith) in
    let is = (h d g at).scan j v.0 k t v.1 there' hold' generation b n stamp r here in
    let wrong : true ≡ false = sym (named_at t g.loaded j (v.1 ∙ ap some is)) ∙ ap (λ (z : RefParts). is_named z g.loaded) name ∙ full.1 in cc

-- the scan is over
pub ends_so : (setup : Setup) (x : SchemeInput) (d : ℕ) (g : Guard) → GuardsFit HazardFits setup x → At x.guards d g → GuardsFit HazardFits setup (with_guard x d (hazard_cleared setup g))
ends_so setup x d g h at = by (has_scanned setup g)
  where
    by : (a : Bool) → GuardsFit HazardFits setup (with_guard x d (cond a (record g { loaded = [] }) g))
    by true = guard_over setup x d g (record g { loaded = [] }) at (λ p t z. inl z) h (λ f. record { names = f.names; scan = λ j v k t e. let none : ⊥ = cc in absurd none })
    by false = same_guard setup x d g at h

pub has_cleared : (setup : Setup) (g : Guard) → HasCleared g (hazard_cleared setup g)
has_cleared setup g = by (has_scanned setup g)
  where
    by : (a : Bool) → HasCleared g (cond a (record g { loaded = [] }) g)
    by true = record { holds = refl; waits = refl; words = refl; start = record { taken_out = refl; updates = refl; step = refl } }
    by false = record { holds = refl; waits = refl; words = refl; start = record { taken_out = refl; updates = refl; step = refl } }
