-- What leaves limbo under DEBRA is held by nobody, and stands behind nobody's start.
use Rattle.std.proofs.Common.{◌≡◌, ◌≢◌, ℕ, ◌+◌, ◌-◌, ◌<◌, ◌≤◌, List, true, Some, subst, arith, ⊎_elim, ap, ◌∙◌}
use Rattle.std.proofs.lemmas.Bool.{ltb-true}
use mathlib.Core.Option.{some}
use Rattle.record_memory.specs.declared.books.Setup.{Setup}
use Rattle.record_memory.specs.declared.books.Guard.{Guard}
use Rattle.row_words.specs.Refs.{RefParts}
use Rattle.record_rule.specs.Inputs.{SchemeCell, limbo, SchemeInput}
use Rattle.record_rule.specs.Facts.{At}
use Rattle.record_rule.specs.Laws.{IsThereAs, IsSafe, limbo_record, FreedCells}
use Rattle.record_rule.proofs.Lists.{one_at}
use Rattle.guard_facts.specs.Announcing.{reading, GuardsFit}
use Rattle.guard_facts.proofs.Cells.{limbo_freed, freed_after}
use Rattle.debra_facts.specs.Rounds.{debra_free}
use Rattle.debra_facts.specs.Debra.{DebraFits}
use Rattle.debra_facts.proofs.Fits.{third_reading, active_who, fits_over}

module _ (setup : Setup) (x : SchemeInput) (h : GuardsFit DebraFits setup x) (d : ℕ) (g : Guard) (at : At x.guards d g) where
  -- It was stamped below the third reading, so it was retired at an epoch of at most that reading, which is at most the epoch less 2. The epoch of each active caller is at least the epoch less 1, and what was retired behind its start was retired no earlier than that
  too_late : (i generation b n stamp r e : ℕ) (k : Guard) → At x.cells i (limbo d generation b n stamp r) → debra_free setup g (limbo_record i generation b stamp) ≡ true → At x.guards e k → k.active ≡ true → k.start_taken_out ≤ n → ⊥
  too_late i generation b n stamp r e k cell free there on behind = let f = h d g at in let o = h e k there in let s = o.late on d i generation b n stamp r cell behind in
      let lt : stamp < f.u = subst (λ (z : ℕ). stamp < z) (third_reading setup x d g f) (ltb-true stamp (reading g 2) free) in
      let bag = (f.bags i generation b n stamp r cell).3 lt in
      let up = (o.active on).4 in let r0 = f.rise in let r1 = f.read in ⊎_elim (λ (p : f.u < f.w). omega arith) (λ (p : f.u ≡ 0). omega arith) f.rose

  pub nobody_holds : IsSafe setup x → (i generation b n stamp r : ℕ) → At x.cells i (limbo d generation b n stamp r) → debra_free setup g (limbo_record i generation b stamp) ≡ true
      → (e p : ℕ) (k : Guard) (t : RefParts) → At x.guards e k → At k.holds p (Some t) → t.index ≢ i + 1
  nobody_holds safe i generation b n stamp r cell free e p k t there hold same = let w = safe.holds e p k t there hold in
      let here : At x.cells (t.index - 1) (limbo d generation b n stamp r) = subst (λ (z : ℕ). At x.cells z (limbo d generation b n stamp r)) (omega arith) cell in
      let alike : IsThereAs (limbo d generation b n stamp r) t.generation k.start_taken_out = subst (λ (c : SchemeCell). IsThereAs c t.generation k.start_taken_out) (one_at x.cells (t.index - 1) w.0 (limbo d generation b n stamp r) w.2 here) w.3 in
      too_late i generation b n stamp r e k cell free there (active_who setup x e p k t (h e k there) hold) alike.1

  pub frees_so : (cells : List SchemeCell) → FreedCells (debra_free setup g) d x.cells cells → GuardsFit DebraFits setup (record x { cells = cells })
  frees_so cells freed e k there = let f = h e k there in
      fits_over setup x cells x.taken_out (limbo_freed (debra_free setup g) d x.cells cells freed) e k f
      (λ on j t le y. let was = f.stands on j t le y in (
        was.0,
        was.1,
        freed_after (debra_free setup g) d x.cells cells freed (t.index - 1) was.0 was.2
            (λ a b n stamp r is free. too_late (t.index - 1) a b n stamp r e k (was.2 ∙ ap some is) free there on (let z = (subst (λ (c : SchemeCell). IsThereAs c t.generation j) is was.3).1 in omega arith)),
        was.3,
      ))
