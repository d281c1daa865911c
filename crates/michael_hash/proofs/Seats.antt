-- The callers of a table, one by one and all together.
use Rattle.std.proofs.Common.{◌≡◌, ◌+◌, ◌<◌, List, [], ◌∷◌, map, get_or, All, Bool, refl, sym, ap, ◌∙◌, subst, arith}
use Rattle.std.proofs.Math.ListN.{get_or-map}
use Rattle.std.proofs.lemmas.List.{length-map}
use Rattle.std.proofs.lemmas.List.Elements.{All-nil, All-cons, All-head, All-tail, All-weaker, All-map}
use Rattle.record_memory.specs.declared.books.View.{View}
use Rattle.record_memory.specs.declared.books.Guard.{Guard}
use Rattle.record_rule.proofs.Lists.{at_below, get_at}
use Rattle.record_table.specs.Made.{IsFresh, AreFreshPasses}
use Rattle.record_table.specs.declared.table.Table.{Table}
use Rattle.record_table.specs.declared.passes.Pass.{Pass}
use Rattle.record_table.specs.Handles.{setup_of, view, IsPassOf}
use Rattle.record_table.specs.Closing.{own_caller, numbers_from, IsWholePassOf, AreAllPasses}
use Rattle.manager.specs.declared.types.Caller.{Caller}
use Rattle.manager.specs.Callers.{IsResting}
use Rattle.manager.specs.Made.{pass_of, passes_of}
use Rattle.set_api.specs.Callers.{AreFreshCallers}
use Rattle.michael_hash.specs.Callers.{IsWholeCallerOf}

module _ {S R L : Type 0} where
  -- it carries no more books than before
  pub still_whole : (is_local : L → Bool → View → View → Type 0) (t : Table S R) (c d : Caller S R L) → IsWholeCallerOf is_local t c → IsPassOf t d.pass → IsResting is_local d → (view d.pass).others ≡ (view c.pass).others → IsWholeCallerOf is_local t d
  still_whole is_local t c d h of resting others = record { whole = record { pass = of; whole = others ∙ h.whole.whole }; resting = resting }

  -- what is read of each caller's pass, read of the callers
  pub read_off : {X : Type 0} (f : Pass S R → X) (cs : List (Caller S R L)) → map f (passes_of cs) ≡ map (λ c. f c.pass) cs
  read_off f [] = refl
  read_off {X = X} f (c ∷ cs) = ap (λ (l : List X). f c.pass ∷ l) (read_off f cs)

  -- and so what is so of each
  pub each_off : (P : Pass S R → Type 0) (cs : List (Caller S R L)) → All P (passes_of cs) → All (λ c. P c.pass) cs
  each_off P [] h = All-nil (λ c. P c.pass)
  each_off P (c ∷ cs) h = All-cons (λ c. P c.pass) c cs (All-head P c.pass (passes_of cs) h) (each_off P cs (All-tail P c.pass (passes_of cs) h))

  module _ (is_local : L → Bool → View → View → Type 0) (t : Table S R) where
    -- all callers, as a table is closed with them
    pub all_passes : (cs : List (Caller S R L)) → All (IsWholeCallerOf is_local t) cs → map (λ c. (view c.pass).own.caller) cs ≡ numbers_from 0 (setup_of t).callers → AreAllPasses t (passes_of cs)
    all_passes cs has order = record {
      each = All-map (IsWholePassOf t) pass_of cs (All-weaker (IsWholeCallerOf is_local t) (λ c. IsWholePassOf t (pass_of c)) (λ c h. h.whole) cs has);
      order = read_off own_caller cs ∙ order;
    }

    -- and as it is made with them
    pub whole_callers : (cs : List (Caller S R L)) → AreAllPasses t (passes_of cs) → All (IsResting is_local) cs → All (IsWholeCallerOf is_local t) cs
    whole_callers cs all resting = each cs all.each resting where
      each : (ds : List (Caller S R L)) → All (IsWholePassOf t) (passes_of ds) → All (IsResting is_local) ds → All (IsWholeCallerOf is_local t) ds
      each [] a r = All-nil (IsWholeCallerOf is_local t)
      each (d ∷ ds) a r = All-cons (IsWholeCallerOf is_local t) d ds (record { whole = All-head (IsWholePassOf t) d.pass (passes_of ds) a; resting = All-head (IsResting is_local) d ds r })
          (each ds (All-tail (IsWholePassOf t) d.pass (passes_of ds) a) (All-tail (IsResting is_local) d ds r))

    pub in_order : (cs : List (Caller S R L)) → AreAllPasses t (passes_of cs) → map (λ c. (view c.pass).own.caller) cs ≡ numbers_from 0 (setup_of t).callers
    in_order cs all = sym (read_off own_caller cs) ∙ all.order

    -- and none of them made a step
    pub fresh_callers : (first : Guard) (cs : List (Caller S R L)) → AreAllPasses t (passes_of cs) → AreFreshPasses t first (passes_of cs) → All (IsResting is_local) cs → AreFreshCallers (IsWholeCallerOf is_local t) (λ c. view c.pass) (setup_of t) first cs
    fresh_callers first cs all fresh resting = record {
      all = sym (length-map cs pass_of) ∙ fresh.all;
      has_each = whole_callers cs all resting;
      fresh = λ i d there.
          let at = at_below (passes_of cs) i (subst (λ n. i < n) (sym (length-map cs pass_of)) there) in
          let is : pass_of (get_or cs i d) ≡ at.0 = sym (get_or-map pass_of cs i d) ∙ get_at (passes_of cs) i at.0 d.pass at.1 in
          subst (λ (p : Pass S R). IsFresh (setup_of t) first i (view p)) (sym is) (subst (λ n. IsFresh (setup_of t) first n (view at.0)) (let z : 0 + i ≡ i = omega arith in z) (fresh.each.each_view i at.0 at.1));
    }
