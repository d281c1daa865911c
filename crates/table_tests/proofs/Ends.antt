-- All passes of a table, after the first one met into the last one.
use Rattle.std.proofs.Common.{◌≡◌, ℕ, ◌<◌, List, ◌++◌, map, All, length, get_or, set, take, drop, sym, ap, ◌∙◌, subst}
use Rattle.std.proofs.Math.Seq.{map-set_same}
use Rattle.std.proofs.lemmas.List.{map-append}
use Rattle.std.proofs.lemmas.List.Elements.{All-get_or, All-set, All-append, All-take, All-drop}
use Rattle.record_table.specs.declared.table.Table.{Table}
use Rattle.record_table.specs.declared.passes.Pass.{Pass}
use Rattle.record_table.specs.Handles.{view, IsSamePass}
use Rattle.record_table.specs.Closing.{own_caller, IsWholePassOf, AreAllPasses}

module _ {S R : Type 0} (t : Table S R) where
  -- the same pass, which has absorbed no other
  abbrev IsSameWhole : Pass S R → Pass S R → Type 0
  IsSameWhole old new = IsSamePass old new × ((view new).others ≡ (view old).others)

  still_whole : (old new : Pass S R) → IsWholePassOf t old → IsSameWhole old new → IsWholePassOf t new
  still_whole old new was same = record {
    pass = record { table = same.0.table ∙ was.pass.table; setup = same.0.setup ∙ was.pass.setup; present = same.0.present ∙ was.pass.present };
    whole = same.1 ∙ was.whole;
  }

  -- the first of these passes did something
  each_still : (l : List (Pass S R)) (d new : Pass S R) → 0 < length l → All (IsWholePassOf t) l → IsSameWhole (get_or l 0 d) new → All (IsWholePassOf t) (set l 0 new)
  each_still l d new lt all same = All-set (IsWholePassOf t) l 0 new (still_whole (get_or l 0 d) new (All-get_or (IsWholePassOf t) l 0 d lt all) same) all

  callers_still : (l : List (Pass S R)) (d new : Pass S R) → IsSameWhole (get_or l 0 d) new → map own_caller (set l 0 new) ≡ map own_caller l
  callers_still l d new same = map-set_same own_caller l 0 new d same.0.caller

  pub ends_met : (mid : ℕ) (all front back : List (Pass S R)) (c d a b : Pass S R) → AreAllPasses t all → all ≡ front ++ back → front ≡ take mid all → back ≡ drop mid all → 0 < length front → 0 < length back
      → IsSameWhole (get_or front 0 c) a → IsSameWhole (get_or back 0 d) b → AreAllPasses t (set front 0 a ++ set back 0 b)
  ends_met mid all front back c d a b were value f k lf lb sa sb = let P : Pass S R → Type 0 = IsWholePassOf t in record {
    each = All-append P _ _ (each_still front c a lf (subst (All P) (sym f) (All-take P mid all were.each)) sa) (each_still back d b lb (subst (All P) (sym k) (All-drop P mid all were.each)) sb);
    order = map-append own_caller (set front 0 a) (set back 0 b) ∙ (λ i. callers_still front c a sa i ++ callers_still back d b sb i) ∙ sym (map-append own_caller front back) ∙ ap (map own_caller) (sym value) ∙ were.order;
  }
