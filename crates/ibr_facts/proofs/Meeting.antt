-- What an interval meets, as the interval grows and as records go on in their lives.
use Rattle.std.proofs.Common.{◌≡◌, ℕ, ◌+◌, ◌-◌, ◌<◌, ◌≤◌, ◌⊎◌, [], set, Option, Some, None, sym, ap, ◌∙◌, subst, arith, ⊎_elim}
use native.Mathlib.Decide.{ℕ_discrete}
use mathlib.Core.Option.{some-ne-none}
use lib.ListN.{get_elem?}
use Rattle.atomic_table.proofs.Lists.{set_here, set_else}
use Rattle.record_memory.specs.declared.books.Setup.{Setup}
use Rattle.record_memory.specs.declared.books.Guard.{Guard}
use Rattle.row_words.specs.Refs.{RefParts, refer}
use Rattle.record_rule.specs.Inputs.{SchemeCell, unseen, rooted, reachable, unpublished, unretired, limbo, SchemeInput}
use Rattle.record_rule.specs.Facts.{At}
use Rattle.record_rule.specs.Laws.{with_cell, IsThereAs}
use Rattle.record_rule.proofs.Lists.{below_at, one_at}
use Rattle.guard_facts.specs.Announcing.{word_of}
use Rattle.ibr_facts.specs.Intervals.{MeetsAs, MeetsGuard, EndsMiss, IsBornBy, Lacks, IbrFits}

pub none_waits : {A : Type 0} (o : Option (ℕ × RefParts)) (p : ℕ) (t : RefParts) → o ≡ None → o ≡ Some (p, t) → A
none_waits o p t e f = let none : ◌≡◌ {A = Option (ℕ × RefParts)} None (Some (p, t)) = sym e ∙ f in let no_such : ⊥ = cc in absurd no_such

-- an interval that grows meets what it met
pub meets_more : (cell : SchemeCell) (l u u' : ℕ) → u ≤ u' → MeetsAs cell l u → MeetsAs cell l u'
meets_more (reachable e b) l u u' le h = omega arith
meets_more (unretired d e b n) l u u' le h = omega arith
meets_more (limbo d e b n s r) l u u' le h = ((let z = h.0 in omega arith), h.1)
meets_more c l u u' le h = absurd h

-- no birth comes to be above the epoch as that grows
pub born_later : (cell : SchemeCell) (e e' : ℕ) → e ≤ e' → IsBornBy cell e → IsBornBy cell e'
born_later unseen e e' le h = tt
born_later rooted e e' le h = tt
born_later (reachable g b) e e' le h = omega arith
born_later (unpublished d g b) e e' le h = omega arith
born_later (unretired d g b n) e e' le h = omega arith
born_later (limbo d g b n s r) e e' le h = omega arith

-- what is met still is once one cell was set, where that cell comes to the next place of its life
pub meets_set : (x : SchemeInput) (i : ℕ) (old new : SchemeCell) (g : Guard) (t : RefParts) → At x.cells i old
    → (IsThereAs old t.generation g.start_taken_out → MeetsAs old (word_of g 0) (word_of g 1) → t.index - 1 ≡ i → IsThereAs new t.generation g.start_taken_out × MeetsAs new (word_of g 0) (word_of g 1))
    → MeetsGuard x g t → MeetsGuard (with_cell x i new) g t
meets_set x i old new g t at moves m = by (ℕ_discrete (t.index - 1) i)
  where
    by : Dec (t.index - 1 ≡ i) → MeetsGuard (with_cell x i new) g t
    by (yes e) = let same : m.0 ≡ old = one_at x.cells i m.0 old (subst (λ (z : ℕ). At x.cells z m.0) e m.2) at in
        let y = moves (subst (λ (z : SchemeCell). IsThereAs z t.generation g.start_taken_out) same m.3) (subst (λ (z : SchemeCell). MeetsAs z (word_of g 0) (word_of g 1)) same m.4) e in
        (new, m.1, ap (get_elem? (set x.cells i new)) e ∙ set_here x.cells i new (below_at x.cells i old at), y.0, y.1)
    by (no ne) = (m.0, m.1, set_else x.cells i (t.index - 1) new ne ∙ m.2, m.3, m.4)

-- a reference by which a limbo record is there is its name
pub named_so : (x : SchemeInput) (i d generation b n stamp r start : ℕ) (t : RefParts) (c : SchemeCell) → At x.cells i (limbo d generation b n stamp r) → 0 < t.index → t.index - 1 ≡ i → At x.cells (t.index - 1) c → IsThereAs c t.generation start → t ≡ refer (i + 1) generation
named_so x i d generation b n stamp r start t c cell pos same there is_there = let here : At x.cells (t.index - 1) (limbo d generation b n stamp r) = subst (λ (z : ℕ). At x.cells z (limbo d generation b n stamp r)) (sym same) cell in
    let alike : IsThereAs (limbo d generation b n stamp r) t.generation start = subst (λ (z : SchemeCell). IsThereAs z t.generation start) (one_at x.cells (t.index - 1) c (limbo d generation b n stamp r) there here) is_there in
    λ j. record { index = (let q : t.index ≡ i + 1 = omega arith in q) j; generation = sym alike.0 j }

-- a guard meets a limbo record by its birth and stamp
limbo_met : (x : SchemeInput) (i c generation b n stamp r : ℕ) (g : Guard) → At x.cells i (limbo c generation b n stamp r) → MeetsGuard x g (refer (i + 1) generation) → (b ≤ word_of g 1) × (word_of g 0 ≤ stamp)
limbo_met x i c generation b n stamp r g cell m = subst (λ (z : SchemeCell). MeetsAs z (word_of g 0) (word_of g 1))
    (one_at x.cells i m.0 (limbo c generation b n stamp r) (subst (λ (z : ℕ). At x.cells z m.0) (let z : i + 1 - 1 ≡ i = omega arith in z) m.2) cell) m.4

-- so a guard whose announced ends don't meet it lacks it
pub lacks_missed : (setup : Setup) (x : SchemeInput) (i d e generation b n stamp r : ℕ) (g : Guard) → IbrFits setup x e g → At x.cells i (limbo d generation b n stamp r) → ((word_of g 0 ≡ 0) ⊎ (stamp < word_of g 0)) ⊎ (word_of g 1 < b) → Lacks x g (refer (i + 1) generation)
lacks_missed setup x i d e generation b n stamp r g f cell misses = let t : RefParts = refer (i + 1) generation in
    ⊎_elim (λ y. ⊎_elim (λ (off : word_of g 0 ≡ 0). let out = f.outside off in ((λ z. out.0 z.0 t z.1), (λ z. none_waits g.pending z.0 t out.1 z.1)))
    (λ (over : stamp < word_of g 0). apart (λ m. let y = (limbo_met x i d generation b n stamp r g cell m).1 in omega arith)) y)
    (λ (under : word_of g 1 < b). apart (λ m. let y = (limbo_met x i d generation b n stamp r g cell m).0 in omega arith)) misses
  where
    apart : (MeetsGuard x g (refer (i + 1) generation) → ⊥) → Lacks x g (refer (i + 1) generation)
    apart no_meeting = ((λ z. no_meeting (f.holds (refer (i + 1) generation) z)), (λ z. ⊎_elim (λ v. v) (λ v. absurd (no_meeting v)) (f.waits z.0 (refer (i + 1) generation) z.1).1))

-- before a scan nothing is missed
pub nothing_missed : {A : Type 0} (c b stamp : ℕ) → EndsMiss [] c b stamp → A
nothing_missed c b stamp = ⊎_elim (λ y. absurd (some-ne-none y.0 (sym y.1))) (λ y. absurd (some-ne-none y.0 (sym y.1)))
