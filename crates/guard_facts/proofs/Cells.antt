-- The records that were there before one of them came to another cell, or before some left limbo.
use Rattle.std.proofs.Common.{◌≡◌, ◌≢◌, ℕ, List, set, Bool, true, refl, ap, ◌∙◌, arith, ⊎_elim}
use mathlib.Core.Option.{some}
use Rattle.atomic_table.proofs.Lists.{at_set}
use Rattle.record_rule.specs.Inputs.{SchemeCell, unseen, limbo}
use Rattle.record_rule.specs.Facts.{At, LimboRecord}
use Rattle.record_rule.specs.Laws.{limbo_record, IsFreed, goes, stays, FreedCells}
use Rattle.record_rule.proofs.Lists.{below_at, at_below, one_at}

-- a record in limbo was there before, where the new cell isn't in limbo
pub limbo_before : (cells : List SchemeCell) (i : ℕ) (new : SchemeCell) → ((c e b n stamp r : ℕ) → new ≢ limbo c e b n stamp r) → (j c e b n stamp r : ℕ) → At (set cells i new) j (limbo c e b n stamp r) → At cells j (limbo c e b n stamp r)
limbo_before cells i new never j c e b n stamp r at = ⊎_elim (λ p. absurd (never c e b n stamp r p.1)) (λ q. q.1) (at_set cells i j new (limbo c e b n stamp r) at)

-- what became of a cell
pub data Became (may : LimboRecord → Bool) (d i : ℕ) (old new : SchemeCell) : Type 0 where
  went : (e b n stamp r : ℕ) → old ≡ limbo d e b n stamp r → may (limbo_record i e b stamp) ≡ true → Became may d i old new
  kept : new ≡ old → Became may d i old new

pub became : (may : LimboRecord → Bool) (d i : ℕ) (old new : SchemeCell) → IsFreed may d i old new → Became may d i old new
became may d i old _ (goes e b n stamp r is free) = went e b n stamp r is free
became may d i old _ (stays k) = kept refl

freed_same : (may : LimboRecord → Bool) (d i : ℕ) (old new : SchemeCell) → IsFreed may d i old new → new ≢ unseen → old ≡ new
freed_same may d i old _ (goes e b n stamp r is free) seen = absurd (seen refl)
freed_same may d i old _ (stays k) seen = refl

module _ (may : LimboRecord → Bool) (d : ℕ) (cells cells' : List SchemeCell) (f : FreedCells may d cells cells') where
  -- a cell that is seen afterwards was there before
  pub freed_before : (i : ℕ) (new : SchemeCell) → At cells' i new → new ≢ unseen → At cells i new
  freed_before i new at seen = let x = f.each i new at in x.1 ∙ ap some (freed_same may d i x.0 new x.2 seen)

  pub limbo_freed : (i c e b n stamp r : ℕ) → At cells' i (limbo c e b n stamp r) → At cells i (limbo c e b n stamp r)
  limbo_freed i c e b n stamp r at = freed_before i (limbo c e b n stamp r) at (λ q. let none : ⊥ = cc in absurd none)

  -- a cell that doesn't go stays
  pub freed_after : (i : ℕ) (old : SchemeCell) → At cells i old → ((e b n stamp r : ℕ) → old ≡ limbo d e b n stamp r → may (limbo_record i e b stamp) ≡ true → ⊥) → At cells' i old
  freed_after i old at stay = let y = at_below cells' i (let l = below_at cells i old at in let m = f.many in omega arith) in let x = f.each i y.0 y.1 in by y.0 y.1 x.0 x.1 (became may d i x.0 y.0 x.2)
    where
      by : (new : SchemeCell) → At cells' i new → (was : SchemeCell) → At cells i was → Became may d i was new → At cells' i old
      by new there was here (went e b n stamp r is free) = absurd (stay e b n stamp r (one_at cells i old was at here ∙ is) free)
      by new there was here (kept same) = there ∙ ap some (same ∙ one_at cells i was old here at)
