-- All that a whole scan misses leaves limbo at once.
use Rattle.std.proofs.Common.{◌≢◌, ℕ, ◌-◌, ◌<◌, ◌⊎◌, List, Some, refl, ap, ◌∙◌, subst, arith, ⊎_elim, inl, inr}
use mathlib.Core.Option.{some}
use Rattle.record_memory.specs.declared.books.Setup.{Setup}
use Rattle.record_memory.specs.declared.books.Guard.{Guard}
use Rattle.row_words.specs.Refs.{RefParts}
use Rattle.record_rule.specs.Inputs.{SchemeCell, unseen, rooted, reachable, unpublished, unretired, limbo, SchemeInput}
use Rattle.record_rule.specs.Facts.{At}
use Rattle.record_rule.specs.Laws.{IsSafe, IsFreed, FreedCells}
use Rattle.record_rule.proofs.Lists.{below_at, at_below, one_at}
use Rattle.guard_facts.specs.Announcing.{word_of}
use Rattle.guard_facts.proofs.Cells.{Became, went, kept, became, freed_before, limbo_freed}
use Rattle.ibr_facts.specs.Intervals.{MeetsGuard, Has, IsBornBy}
use Rattle.ibr_facts.specs.Keeping.{ibr_free, IbrCovered}
use Rattle.ibr_facts.proofs.Meeting.{named_so}
use Rattle.ibr_facts.proofs.Moving.{over}
use Rattle.ibr_facts.proofs.Missing.{all_lack}

-- what isn't seen has no birth
born_seen : (cell : SchemeCell) (epoch : ℕ) → (cell ≢ unseen → IsBornBy cell epoch) → IsBornBy cell epoch
born_seen unseen epoch f = tt
born_seen rooted epoch f = tt
born_seen (reachable e b) epoch f = f (λ z. cc)
born_seen (unpublished c e b) epoch f = f (λ z. cc)
born_seen (unretired c e b n) epoch f = f (λ z. cc)
born_seen (limbo c e b n s r) epoch f = f (λ z. cc)

pub frees_so : (setup : Setup) (x : SchemeInput) (d : ℕ) (g : Guard) (cells : List SchemeCell) → IsSafe setup x → IbrCovered setup x → At x.guards d g → FreedCells (ibr_free setup g) d x.cells cells → IbrCovered setup (record x { cells = cells })
frees_so setup x d g cells safe h at freed = (
  over setup x cells x.taken_out x.epoch (omega arith) (λ l. l) (omega arith)
      (λ e k t there has m. let new = at_below cells (t.index - 1) (let l = below_at x.cells (t.index - 1) m.0 m.2 in let z = freed.many in omega arith) in let old = freed.each (t.index - 1) new.0 new.1 in
      met e k t there has m new.0 new.1 (became (ibr_free setup g) d (t.index - 1) m.0 new.0 (subst (λ (z : SchemeCell). IsFreed (ibr_free setup g) d (t.index - 1) z new.0) (one_at x.cells (t.index - 1) old.0 m.0 old.1 m.2) old.2)))
      (λ i c generation b n cell. inl (freed_before (ibr_free setup g) d x.cells cells freed i (unretired c generation b n) cell (λ z. cc)))
      (λ i c generation b n stamp r cell. limbo_freed (ibr_free setup g) d x.cells cells freed i c generation b n stamp r cell) h.0,
  λ i cell there. born_seen cell x.epoch (λ ne. h.1 i cell (freed_before (ibr_free setup g) d x.cells cells freed i cell there ne)),
)
  where
    -- what a guard has is met still, or has left limbo and can't come to be held
    met : (e : ℕ) (k : Guard) (t : RefParts) → At x.guards e k → Has k t → (m : MeetsGuard x k t) → (new : SchemeCell) → At cells (t.index - 1) new → Became (ibr_free setup g) d (t.index - 1) m.0 new
        → (MeetsGuard (record x { cells = cells }) k t) ⊎ ((word_of k 1 < x.epoch) × ((p : ℕ) → ¬ At k.holds p (Some t)))
    met e k t there has m new here (kept same) = inl (m.0, m.1, here ∙ ap some same, m.3, m.4)
    met e k t there has m new here (went generation b n stamp r is free) = let cell : At x.cells (t.index - 1) (limbo d generation b n stamp r) = m.2 ∙ ap some is in
        let name = named_so x (t.index - 1) d generation b n stamp r k.start_taken_out t m.0 cell m.1 refl m.2 m.3 in let lacks = all_lack setup x (t.index - 1) d generation b n stamp r e g k safe h.0 at cell free there in
        inr (⊎_elim (λ y. absurd (lacks.0 (y.0, subst (λ (z : RefParts). At k.holds y.0 (Some z)) name y.1))) (λ y. lacks.1 (y.0, y.1 ∙ (λ j. Some (y.0, name j)))) has, λ p hold. lacks.0 (p, subst (λ (z : RefParts). At k.holds p (Some z)) name hold))
