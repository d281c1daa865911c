-- The last of a manager's callers.
use Rattle.std.proofs.Common.{◌≡◌, List, ◌++◌, All, Option, Some, None}
use Rattle.std.specs.Option.{IfSome, option_to_list}
use Rattle.std.proofs.lemmas.List.Elements.{All-pop}
use Rattle.record_table.specs.declared.table.Table.{Table}
use Rattle.record_table.specs.Handles.{IsPassOf}
use Rattle.record_table.specs.Closing.{IsWholePassOf}
use Rattle.manager.specs.declared.types.Caller.{Caller}
use Rattle.manager.specs.Made.{passes_of}
use Rattle.manager.proofs.Seats.{popped_passes}

pub last_of : {S R L : Type 0} (t : Table S R) (xs ys : List (Caller S R L)) (r : Option (Caller S R L)) → xs ≡ ys ++ option_to_list r → All (IsWholePassOf t) (passes_of xs) → IfSome r (λ c. IsPassOf t c.pass)
last_of t xs ys None e all = tt
last_of t xs ys (Some c) e all = (All-pop (IsWholePassOf t) (passes_of xs) (passes_of ys) (Some c.pass) (popped_passes xs ys c e) all).1.pass
