-- The bag once all words were loaded and it was sifted by them.
use Rattle.std.proofs.Common.{◌≡◌, ℕ, ◌*◌, List, ◌++◌, length, count_by, append_assoc, All, Bool, sym, refl, ap, ◌∙◌, subst, arith}
use Rattle.record_memory.specs.declared.steps.Step.{Step}
use Rattle.record_memory.specs.declared.books.Guard.{Guard}
use Rattle.record_memory.specs.declared.books.Setup.{Setup}
use Rattle.record_memory.specs.declared.books.View.{View}
use Rattle.record_memory.specs.declared.books.Standing.TheVariants.{Limbo, Free}
use Rattle.row_words.specs.Refs.{RefParts}
use Rattle.row_words.specs.declared.links.Chain.{Chain}
use Rattle.row_words.specs.declared.links.Freed.{Freed}
use Rattle.record_rule.specs.ChainRows.{IsRowStep}
use Rattle.record_rule.specs.Kinds.{idle}
use Rattle.record_rule.specs.Standings.{is_limbo}
use Rattle.reclaim_api.specs.Chained.{IsChainOf, refs_in}
use Rattle.reclaim_api.specs.Frames.{had}
use Rattle.reclaim_api.proofs.Sifted.{HasSifted, sifted_bag, sifted_many, sifted_whole, sifted_mine, sifted_freed, sifted_spent}
use Rattle.reclaim_api.proofs.Stills.{still_setup, still_caller, still_guard, still_idle}
use Rattle.hazard_facts.specs.Pointers.{is_named}
use Rattle.reclaim_hazard.specs.LocalParts.{IsLocal}
use Rattle.reclaim_hazard.specs.Running.{scan_loads, Scans}
use Rattle.reclaim_hazard.specs.Sifting.{stays}
use Rattle.reclaim_hazard.specs.Steps.{HasScanned}
use Rattle.reclaim_hazard.proofs.Names.{names_fit}

-- a record stays where one of the words names it, whatever its birth and its stamp
abbrev pub named : List ℕ → RefParts → ℕ → ℕ → Bool
named words r birth stamp = is_named r words

module _ (words : List ℕ) (v u : View) (scanned : HasScanned v words u) (bag free : Chain) (h : IsChainOf Limbo v bag) (whole : bag.count ≡ had is_limbo v.own) (frees : IsChainOf Free v free)
    (w : View) (left after : Chain) (f : Freed) (Q : Type 0) (sifted : HasSifted (named words) u w bag left free after f Q) where
  -- the bag has all that the caller has in limbo still
  all_left : left.count ≡ had is_limbo w.own
  all_left = sifted_whole (named words) v u scanned.left bag free h whole frees w left after f Q sifted

  pub sifted_local : (caller callers : ℕ) (i i' : Bool) (s s' : View) → u.own.caller ≡ v.own.caller → IsLocal (record { caller = caller; callers = callers; bag = bag }) i s v → IsLocal (record { caller = caller; callers = callers; bag = left }) i' s' w
  sifted_local caller callers i i' s s' same l = record {
    caller = still_caller u w sifted.still ∙ same ∙ l.caller;
    callers = ap (λ (k : Setup). k.callers) (still_setup u w sifted.still ∙ scanned.left.setup) ∙ l.callers;
    counted = l.counted;
    few = l.few;
    words = ap (λ (g : Guard). length g.announced) (still_guard u w sifted.still ∙ scanned.guard) ∙ l.words;
    calm = ap (λ (g : Guard). g.loaded) (still_guard u w sifted.still ∙ scanned.guard) ∙ l.calm;
    bag = sifted_bag (named words) v u scanned.left bag free h whole frees w left after f Q sifted;
    whole = all_left;
  }

  pub sifted_scan : (setup : Setup) → length words ≡ 3 * setup.callers → (made : List Step) × (w.own.steps ≡ v.own.steps ++ made) × Scans setup (idle v.own) v.own.mine made f w.own
  sifted_scan setup all = (
    scan_loads (idle v.own) 0 words ++ sifted.still.made,
    sifted.still.steps ∙ ap (λ (l : List Step). l ++ sifted.still.made) scanned.steps ∙ append_assoc v.own.steps (scan_loads (idle v.own) 0 words) sifted.still.made,
    record {
      words = words;
      all = all;
      moved = sifted.still.made;
      loads = refl;
      rows = subst (λ (n : ℕ). All (IsRowStep n) sifted.still.made) (sym (still_idle u w sifted.still)) sifted.still.each;
      mine_is = sifted_mine (named words) v u scanned.left bag free h whole frees w left after f Q sifted;
      freed = sifted_freed (named words) v u scanned.left bag free h whole frees w left after f Q sifted;
      spent = sifted_spent (named words) v u scanned.left bag free h whole frees w left after f Q sifted;
      stay = let a : left.count ≡ count_by (stays words) (refs_in v bag) = sifted_many (named words) v u scanned.left bag free h whole frees w left after f Q sifted in
          let b = all_left in let c = names_fit words (refs_in v bag) h.list.distinct h.list.in_range in omega arith;
    },
  )
