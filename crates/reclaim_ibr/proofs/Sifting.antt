-- The bag once all ends were loaded and it was sifted by them.
use Rattle.std.proofs.Common.{◌≡◌, ℕ, ◌%◌, List, ◌++◌, length, append_assoc, All, Bool, refl, ap, ◌∙◌, sym, subst}
use Rattle.record_memory.specs.declared.steps.Step.{Step}
use Rattle.record_memory.specs.declared.books.Moves.{Moves}
use Rattle.record_memory.specs.declared.books.Setup.{Setup}
use Rattle.record_memory.specs.declared.books.View.{View}
use Rattle.record_memory.specs.declared.books.Standing.TheVariants.{Free}
use Rattle.row_words.specs.declared.links.Chain.{Chain}
use Rattle.row_words.specs.declared.links.Freed.{Freed}
use Rattle.record_rule.specs.ChainRows.{IsRowStep}
use Rattle.record_rule.specs.Kinds.{idle}
use Rattle.reclaim_api.specs.Chained.{IsChainOf}
use Rattle.reclaim_api.specs.Scanning.{word_loads, LoadsAll}
use Rattle.reclaim_api.proofs.Stills.{still_setup, still_caller, still_guard, still_moves, still_idle}
use Rattle.reclaim_api.proofs.Sifted.{HasSifted, sifted_bag, sifted_whole, sifted_mine, sifted_freed, sifted_spent}
use Rattle.reclaim_ibr.specs.declared.interval.Interval.{Interval}
use Rattle.reclaim_ibr.specs.LocalParts.{EACH, IsLocal}
use Rattle.reclaim_ibr.specs.Meeting.{meets, is_unmet}
use Rattle.reclaim_ibr.specs.Retiring.{ends_of, scan_word, Scans}
use Rattle.reclaim_ibr.proofs.LocalKept.{calm_same, local_by, local_since}

module _ (ends : List ℕ) (v u : View) (scanned : LoadsAll scan_word is_unmet v ends u) (l : Interval) (i : Bool) (s : View) (h : IsLocal l i s v) (free : Chain) (frees : IsChainOf Free v free)
    (w : View) (left after : Chain) (f : Freed) (Q : Type 0) (sifted : HasSifted (meets ends) u w l.bag left free after f Q) where
  guard_is : w.own.guard ≡ v.own.guard
  guard_is = still_guard u w sifted.still ∙ scanned.guard

  -- the local part is this caller's still
  pub scanned_local : (i' : Bool) (s' : View) → u.own.caller ≡ v.own.caller → i' ≡ i → s' ≡ s → IsLocal (record l { bag = left }) i' s' w
  scanned_local i' s' same inside since = local_since (record l { bag = left }) i i' s s' w inside since
      (local_by l left l.retired i s v w h (still_setup u w sifted.still ∙ scanned.left.setup) (still_caller u w sifted.still ∙ same) (calm_same l i s v w.own.guard h guard_is)
      (ap (λ (m : Moves). m.births) (still_moves u w sifted.still ∙ scanned.left.moves)) (h.retired ∙ ap (λ (m : Moves). m.retired % EACH) (sym (still_moves u w sifted.still ∙ scanned.left.moves)))
      (sifted_bag (meets ends) v u scanned.left l.bag free h.bag h.whole frees w left after f Q sifted) (sifted_whole (meets ends) v u scanned.left l.bag free h.bag h.whole frees w left after f Q sifted))

  pub has_scanned : (setup : Setup) → length ends ≡ ends_of setup → (made : List Step) × (w.own.steps ≡ v.own.steps ++ made) × Scans setup (idle v.own) v.own.mine made f w.own
  has_scanned setup all = (
    word_loads scan_word (idle v.own) 0 ends ++ sifted.still.made,
    sifted.still.steps ∙ ap (λ (t : List Step). t ++ sifted.still.made) scanned.steps ∙ append_assoc v.own.steps (word_loads scan_word (idle v.own) 0 ends) sifted.still.made,
    record {
      ends = ends;
      all = all;
      moved = sifted.still.made;
      loads = refl;
      rows = subst (λ (n : ℕ). All (IsRowStep n) sifted.still.made) (sym (still_idle u w sifted.still)) sifted.still.each;
      mine_is = sifted_mine (meets ends) v u scanned.left l.bag free h.bag h.whole frees w left after f Q sifted;
      freed = sifted_freed (meets ends) v u scanned.left l.bag free h.bag h.whole frees w left after f Q sifted;
      spent = sifted_spent (meets ends) v u scanned.left l.bag free h.bag h.whole frees w left after f Q sifted;
    },
  )
