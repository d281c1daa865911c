-- What a caller of a reclaimer keeps for itself, told by its pass.
use Rattle.std.specs.Prelude.{◌≡◌, ℕ, slice_index_or, Bool, None}
use Rattle.record_memory.specs.declared.books.View.{View}
use Rattle.record_rule.specs.Kinds.{gave_birth}
use Rattle.record_table.specs.declared.passes.Pass.{Pass}
use Rattle.record_table.specs.Handles.{view, since, is_inside}
use Rattle.reclaim_api.specs.Frames.{in_away}

-- the local part fits the pass: whether that is inside an operation, what it knew when its guard began or ended, and what it knows
abbrev pub IsLocalOf : {S R L : Type 0} → (L → Bool → View → View → Type 0) → L → Pass S R → Type 0
IsLocalOf is_local l p = is_local l (is_inside p) (since p) (view p)

-- what the caller knows, once one more record is its own
abbrev pub born : View → View
born v = record v { own = record v.own { moves = gave_birth v.own.moves } }

-- the local part fits the pass once the record is the caller's own for which a birth was just answered
abbrev pub IsLocalBorn : {S R L : Type 0} → (L → Bool → View → View → Type 0) → L → Pass S R → Type 0
IsLocalBorn is_local l p = is_local l (is_inside p) (since p) (born (view p))

-- no record of the caller is in limbo or spent
abbrev pub HasNoneAway : View → Type 0
HasNoneAway v = (i : ℕ) → in_away (slice_index_or v.own.mine i None) ≡ None
