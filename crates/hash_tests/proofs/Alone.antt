-- The only caller of a table, from the list of all.
use Rattle.std.proofs.Common.{◌≡◌, List, [], ◌∷◌, ◌++◌, length, All, Bool, subst, arith}
use Rattle.std.proofs.lemmas.List.Elements.{All-head}
use Rattle.record_memory.specs.declared.books.View.{View}
use Rattle.record_table.specs.declared.table.Table.{Table}
use Rattle.record_table.specs.Closing.{AreAllPasses}
use Rattle.manager.specs.declared.types.Caller.{Caller}
use Rattle.manager.specs.Callers.{IsResting}
use Rattle.manager.specs.Made.{passes_of}
use Rattle.michael_hash.specs.Callers.{IsWholeCallerOf}
use Rattle.michael_hash.proofs.Seats.{whole_callers, in_order}
use Rattle.hash_tests.specs.Only.{IsOnlyCallerOf}

module _ {S R L : Type 0} (is_local : L → Bool → View → View → Type 0) (t : Table S R) where
  -- all callers are one
  pub alone : (cs ds : List (Caller S R L)) (c : Caller S R L) → cs ≡ ds ++ c ∷ [] → length ds ≡ 0 → AreAllPasses t (passes_of cs) → All (IsResting is_local) cs → IsOnlyCallerOf is_local t c
  alone cs [] c e none all resting =
      let a = subst (λ (l : List (Caller S R L)). AreAllPasses t (passes_of l)) e all in
      let r = subst (λ (l : List (Caller S R L)). All (IsResting is_local) l) e resting in
      record { whole = All-head (IsWholeCallerOf is_local t) c [] (whole_callers is_local t (c ∷ []) a r); order = in_order is_local t (c ∷ []) a }
  alone cs (d ∷ ds) c e none all resting = absurd (omega (arith, none))
