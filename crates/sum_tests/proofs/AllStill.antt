-- All callers of a table, after one of them made a call.
use Rattle.std.proofs.Common.{◌≡◌, ℕ, ◌<◌, List, All, map, length, get_or, set, sym, ap, ◌∙◌, subst}
use Rattle.std.proofs.lemmas.List.{map-set}
use Rattle.std.proofs.lemmas.List.Elements.{All-set, All-get_or}
use Rattle.atomic_table.proofs.Lists.{at_map}
use Rattle.record_rule.proofs.Lists.{at_below, below_at, get_at, map_set_same}
use Rattle.record_table.specs.declared.table.Table.{Table}
use Rattle.record_table.specs.Handles.{view, IsPassOf}
use Rattle.record_table.specs.Closing.{own_caller, IsWholePassOf, AreAllPasses}
use Rattle.reclaim_api.specs.Guarding.{IsSameCaller}
use Rattle.manager.specs.declared.types.Caller.{Caller}
use Rattle.manager.specs.Made.{pass_of, passes_of}

module _ {S R L : Type 0} (t : Table S R) where
  pub all_still : (l : List (Caller S R L)) (i : ℕ) (d new : Caller S R L) → i < length l → AreAllPasses t (passes_of l) → IsPassOf t new.pass → IsSameCaller (get_or l i d).pass new.pass → AreAllPasses t (passes_of (set l i new))
  all_still l i d new low all of same =
      let x = at_below l i low in
      let is : get_or l i d ≡ x.0 = get_at l i x.0 d x.1 in
      let here = at_map pass_of l i x.0 x.1 in
      let was : IsWholePassOf t x.0.pass = subst (IsWholePassOf t) (get_at (passes_of l) i x.0.pass new.pass here) (All-get_or (IsWholePassOf t) (passes_of l) i new.pass (below_at (passes_of l) i x.0.pass here) all.each) in
      let whole : IsWholePassOf t new.pass = record { pass = of; whole = same.others ∙ ap (λ (c : Caller S R L). (view c.pass).others) is ∙ was.whole } in
      record {
        each = subst (All (IsWholePassOf t)) (sym (map-set pass_of l i new)) (All-set (IsWholePassOf t) (passes_of l) i new.pass whole all.each);
        order = ap (map own_caller) (map-set pass_of l i new) ∙ map_set_same own_caller (passes_of l) i x.0.pass new.pass here (same.caller ∙ ap (λ (c : Caller S R L). own_caller c.pass) is) ∙ all.order;
      }
