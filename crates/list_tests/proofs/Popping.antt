-- A caller is taken from the end of a list of all.
use Rattle.std.proofs.Common.{◌≡◌, List, ◌++◌, append-nil, All, Option, Some, None, ◌∙◌, subst}
use Rattle.std.specs.Option.{IfSome, option_to_list}
use Rattle.std.proofs.lemmas.List.Elements.{All-pop}
use Rattle.record_table.specs.declared.table.Table.{Table}
use Rattle.record_table.specs.Handles.{IsPassOf}
use Rattle.record_table.specs.Closing.{IsWholePassOf}
use Rattle.manager.specs.declared.types.Caller.{Caller}
use Rattle.manager.specs.Made.{passes_of}
use Rattle.manager.proofs.Seats.{popped_passes}

-- it is one of the table's, and so are the others
pub popped : {S R L : Type 0} (t : Table S R) (xs ys : List (Caller S R L)) (r : Option (Caller S R L)) → xs ≡ ys ++ option_to_list r → All (IsWholePassOf t) (passes_of xs)
    → All (IsWholePassOf t) (passes_of ys) × IfSome r (λ c. IsPassOf t c.pass)
popped {S = S} {R = R} {L = L} t xs ys None e all = (subst (λ (l : List (Caller S R L)). All (IsWholePassOf t) (passes_of l)) (e ∙ append-nil ys) all, tt)
popped t xs ys (Some c) e all = let p = All-pop (IsWholePassOf t) (passes_of xs) (passes_of ys) (Some c.pass) (popped_passes xs ys c e) all in (p.0, p.1.pass)
