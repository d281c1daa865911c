-- Records move, or the epoch, and no guard changes.
use Rattle.std.proofs.Common.{◌≡◌, ◌≢◌, ℕ, ◌+◌, ◌-◌, ◌<◌, ◌≤◌, ◌⊎◌, List, [], ◌∷◌, ◌++◌, length, length-append, set, Some, None, refl, subst, arith, ⊎_elim, inl, inr}
use Rattle.atomic_table.proofs.Lists.{at_set}
use Rattle.record_memory.specs.declared.books.Setup.{Setup}
use Rattle.record_memory.specs.declared.books.Guard.{Guard}
use Rattle.row_words.specs.Refs.{RefParts, refer}
use Rattle.record_rule.specs.Inputs.{SchemeCell, unseen, rooted, reachable, unpublished, unretired, limbo, SchemeInput}
use Rattle.record_rule.specs.Facts.{At}
use Rattle.record_rule.specs.Laws.{IsThereAs, IsSafe, with_cell, opening_scheme}
use Rattle.record_rule.specs.Least.{holds_nothing}
use Rattle.record_rule.proofs.Lists.{each_set, at_replicate, at_runs}
use Rattle.guard_facts.specs.Announcing.{LAST_EPOCH, word_of, reading, GuardsFit, first_guard}
use Rattle.guard_facts.proofs.Cells.{limbo_before}
use Rattle.ibr_facts.specs.Intervals.{MeetsAs, MeetsGuard, Has, IsBornBy, IbrFits}
use Rattle.ibr_facts.specs.Keeping.{PLACES, IbrCovered}
use Rattle.ibr_facts.proofs.Meeting.{none_waits, born_later, meets_set}

-- each guard fits afterwards, where it still meets what it has, or can't come to hold it
pub over : (setup : Setup) (x : SchemeInput) (cells : List SchemeCell) (taken_out : List RefParts) (epoch : ℕ) → x.epoch ≤ epoch → (x.epoch ≤ LAST_EPOCH → epoch ≤ LAST_EPOCH) → length x.taken_out ≤ length taken_out
    → ((d : ℕ) (g : Guard) (t : RefParts) → At x.guards d g → Has g t → MeetsGuard x g t → (MeetsGuard (record x { cells = cells; taken_out = taken_out; epoch = epoch }) g t) ⊎ (word_of g 1 < epoch × ((p : ℕ) → ¬ At g.holds p (Some t))))
    → ((i c generation b n : ℕ) → At cells i (unretired c generation b n) → At x.cells i (unretired c generation b n) ⊎ (length x.taken_out ≤ n))
    → ((i c generation b n stamp r : ℕ) → At cells i (limbo c generation b n stamp r) → At x.cells i (limbo c generation b n stamp r))
    → GuardsFit IbrFits setup x → GuardsFit IbrFits setup (record x { cells = cells; taken_out = taken_out; epoch = epoch })
over setup x cells taken_out epoch later last more meets was_unretired was_limbo h d g at = let f = h d g at in record {
  lower = let z = f.lower in omega arith;
  upper = f.upper;
  top = let z = f.top in omega arith;
  limit = last f.limit;
  read = let z = f.read in omega arith;
  outside = f.outside;
  holds = λ t e. ⊎_elim (λ y. y) (λ y. absurd (y.1 e.0 e.1)) (meets d g t at (inl e) (f.holds t e));
  waits = λ p t e. let w = f.waits p t e in (w.0, ⊎_elim (λ y. inl (omega arith)) (λ y. ⊎_elim inr (λ z. inl z.0) (meets d g t at (inr (p, e)) y)) w.1);
  stamped = λ c i generation b n k cell there lt has. ⊎_elim (λ y. f.stamped c i generation b n k y there lt has) (λ y. let z = (h c k there).read in absurd (omega arith)) (was_unretired i c generation b n cell);
  scan = λ i generation b n stamp r c k cell there misses. let y = f.scan i generation b n stamp r c k (was_limbo i d generation b n stamp r cell) there misses in (y.0, λ w. let z = y.1 w in omega arith);
}

-- one record comes to the next place of its life, but not to limbo
moves : (setup : Setup) (x : SchemeInput) (i : ℕ) (old new : SchemeCell) (taken_out : List RefParts) → IsSafe setup x → IbrCovered setup x → At x.cells i old → length x.taken_out ≤ length taken_out
    → ((generation start l u : ℕ) → start ≤ length x.taken_out → IsThereAs old generation start → MeetsAs old l u → IsThereAs new generation start × MeetsAs new l u) → ((c generation b n : ℕ) → new ≡ unretired c generation b n → length x.taken_out ≤ n)
    → ((c generation b n stamp r : ℕ) → new ≢ limbo c generation b n stamp r) → IsBornBy new x.epoch → IbrCovered setup (record x { cells = set x.cells i new; taken_out = taken_out })
moves setup x i old new taken_out safe h at more on late never born = (
  over setup x (set x.cells i new) taken_out x.epoch (omega arith) (λ l. l) more (λ d g t there has m. inl (meets_set x i old new g t at (λ a z same. on t.generation g.start_taken_out (word_of g 0) (word_of g 1) (safe.starts d g there) a z) m))
      (λ j c generation b n cell. ⊎_elim (λ p. inr (late c generation b n p.1)) (λ p. inl p.1) (at_set x.cells i j new (unretired c generation b n) cell)) (limbo_before x.cells i new never) h.0,
  each_set (λ j c. IsBornBy c x.epoch) x.cells i new h.1 born,
)

-- handing out, linking and taking out
pub hands_so : (setup : Setup) (x : SchemeInput) (i d generation b : ℕ) (g : Guard) → IsSafe setup x → IbrCovered setup x → At x.cells i unseen → At x.guards d g → b ≡ reading g 0 → IbrCovered setup (with_cell x i (unpublished d generation b))
hands_so setup x i d generation b g safe h at mine may = moves setup x i unseen (unpublished d generation b) x.taken_out safe h at (omega arith) (λ e start l u le there m. absurd there) (λ c e a n z. let none : ⊥ = cc in absurd none) (λ c e a n s r z. cc)
    (let z = (h.0 d g mine).top in omega arith)

pub links_so : (setup : Setup) (x : SchemeInput) (i d generation b : ℕ) → IsSafe setup x → IbrCovered setup x → At x.cells i (unpublished d generation b) → IbrCovered setup (with_cell x i (reachable generation b))
links_so setup x i d generation b safe h at = moves setup x i (unpublished d generation b) (reachable generation b) x.taken_out safe h at (omega arith) (λ e start l u le there m. absurd there) (λ c e a n z. let none : ⊥ = cc in absurd none) (λ c e a n s r z. cc)
    (h.1 i (unpublished d generation b) at)

pub takes_so : (setup : Setup) (x : SchemeInput) (i d generation b : ℕ) → IsSafe setup x → IbrCovered setup x → At x.cells i (reachable generation b)
    → IbrCovered setup (record x { cells = set x.cells i (unretired d generation b (length x.taken_out)); taken_out = x.taken_out ++ refer (i + 1) generation ∷ [] })
takes_so setup x i d generation b safe h at = let k : ℕ = length x.taken_out in moves setup x i (reachable generation b) (unretired d generation b k) (x.taken_out ++ refer (i + 1) generation ∷ []) safe h at
    (let l = length-append x.taken_out (refer (i + 1) generation ∷ []) in omega arith) (λ e start l u le there m. ((there, le), m)) (λ c e a n z. let y : k ≡ n = cc in omega arith) (λ c e a n s r z. cc) (h.1 i (reachable generation b) at)

pub exchanges_so : (setup : Setup) (x : SchemeInput) (old new : ℕ) → IbrCovered setup x → old < LAST_EPOCH → new ≡ old + 1 → x.epoch ≡ old → IbrCovered setup (record x { epoch = new })
exchanges_so setup x old new h last up is = (
  over setup x x.cells x.taken_out new (omega arith) (λ l. omega arith) (omega arith) (λ d g t there has m. inl m) (λ i c generation b n e. inl e) (λ i c generation b n stamp r e. e) h.0,
  λ i cell at. born_later cell x.epoch new (omega arith) (h.1 i cell at),
)

-- a new table
pub starts_so : (setup : Setup) → 0 < setup.roots → IbrCovered setup (opening_scheme setup (first_guard PLACES (1 ∷ [])))
starts_so setup positive = let g : Guard = first_guard PLACES (1 ∷ []) in
    let cell : (i : ℕ) (c : SchemeCell) → At (opening_scheme setup g).cells i c → (rooted ≡ c) ⊎ (unseen ≡ c) = (λ i c at. ⊎_elim (λ p. inl p.1) (λ p. inr p.1) (at_runs setup.roots (setup.records - setup.roots) i rooted unseen c at)) in (
      λ d k at. subst (IbrFits setup (opening_scheme setup g) d) (at_replicate setup.callers d g k at).1 record {
        lower = omega arith;
        upper = omega arith;
        top = omega arith;
        limit = omega arith;
        read = omega arith;
        outside = λ e. (holds_nothing PLACES, refl);
        holds = λ t e. absurd (holds_nothing PLACES e.0 t e.1);
        waits = λ p t e. none_waits None p t refl e;
        stamped = λ c i generation b n o here there lt. ⊎_elim (λ e. absurd (holds_nothing PLACES e.0 (refer (i + 1) generation) e.1)) (λ e. none_waits None e.0 (refer (i + 1) generation) refl e.1);
        scan = λ i generation b n stamp r c o here. ⊎_elim (λ p. let none : ⊥ = cc in absurd none) (λ p. let none : ⊥ = cc in absurd none) (cell i (limbo d generation b n stamp r) here);
      },
      λ i c at. ⊎_elim (λ p. subst (λ (c : SchemeCell). IsBornBy c 1) p tt) (λ p. subst (λ (c : SchemeCell). IsBornBy c 1) p tt) (cell i c at),
    )
