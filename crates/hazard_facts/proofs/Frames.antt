-- What doesn't touch the facts: cells that change with no record in limbo more, and a guard that changes with no hold more of a record that may be in limbo.
use Rattle.std.proofs.Common.{ℕ, ◌-◌, ◌/◌, ◌%◌, ◌⊎◌, List, Some, sym, subst, ⊎_elim, inl}
use Rattle.atomic_table.proofs.Lists.{at_set}
use Rattle.record_memory.specs.declared.books.Setup.{Setup}
use Rattle.record_memory.specs.declared.books.Guard.{Guard}
use Rattle.row_words.specs.Refs.{RefParts}
use Rattle.record_rule.specs.Inputs.{SchemeCell, limbo, SchemeInput}
use Rattle.record_rule.specs.Facts.{At}
use Rattle.record_rule.specs.Laws.{with_guard}
use Rattle.guard_facts.specs.Announcing.{GuardsFit}
use Rattle.guard_facts.proofs.Replaced.{guards_fit}
use Rattle.hazard_facts.specs.Pointers.{HazardFits}

-- other cells, of which each one in limbo was there before
pub cells_over : (setup : Setup) (x : SchemeInput) (cells : List SchemeCell) (taken_out : List RefParts) → ((i c generation b n stamp r : ℕ) → At cells i (limbo c generation b n stamp r) → At x.cells i (limbo c generation b n stamp r))
    → GuardsFit HazardFits setup x → GuardsFit HazardFits setup (record x { cells = cells; taken_out = taken_out })
cells_over setup x cells taken_out was h d g at = let f = h d g at in record {
  names = f.names;
  scan = λ j v k t l there hold generation b n stamp r cell. f.scan j v k t l there hold generation b n stamp r (was (t.index - 1) d generation b n stamp r cell);
}

-- another guard of one caller: what it holds it held before, or it isn't in limbo; of its words and its scan the caller has to say more
pub guard_over : (setup : Setup) (x : SchemeInput) (d : ℕ) (g new : Guard) → At x.guards d g
    → ((p : ℕ) (t : RefParts) → At new.holds p (Some t) → At g.holds p (Some t) ⊎ ((c generation b n stamp r : ℕ) → ¬ At x.cells (t.index - 1) (limbo c generation b n stamp r)))
    → GuardsFit HazardFits setup x → (HazardFits setup (with_guard x d new) d g → HazardFits setup (with_guard x d new) d new) → GuardsFit HazardFits setup (with_guard x d new)
guard_over setup x d g new at only h mine = guards_fit HazardFits setup x d g new at h over mine
  where
    over : (e : ℕ) (k : Guard) → At x.guards e k → HazardFits setup x e k → HazardFits setup (with_guard x d new) e k
    over e k here f = record {
      names = f.names;
      scan = λ j v o t l there hold generation b n stamp r cell. ⊎_elim
          (λ p. ⊎_elim (λ y. f.scan j v g t l (subst (λ (z : ℕ). At x.guards z g) (sym p.0) at) y generation b n stamp r cell) (λ y. absurd (y e generation b n stamp r cell))
          (only (j % 3) t (subst (λ (z : Guard). At z.holds (j % 3) (Some t)) (sym p.1) hold)))
          (λ q. f.scan j v o t l q.1 hold generation b n stamp r cell) (at_set x.guards d (j / 3) new o there);
    }

-- the guard stays as it is
pub same_guard : (setup : Setup) (x : SchemeInput) (d : ℕ) (g : Guard) → At x.guards d g → GuardsFit HazardFits setup x → GuardsFit HazardFits setup (with_guard x d g)
same_guard setup x d g at h = guard_over setup x d g g at (λ p t z. inl z) h (λ f. f)
