-- A draw from the caller's own range, where the allocator is `Once`: it looks at its own cursor, and then stores one more there.
use Rattle.std.specs.Prelude.{◌≡◌, ℕ, ◌+◌, ◌*◌, ◌<◌, ◌≤◌, Some, None, slice_set}
use Rattle.set_model.specs.declared.names.AllocatorName.TheVariants.{Once}
use Rattle.record_memory.specs.declared.steps.Word.TheVariants.{Cursor}
use Rattle.record_memory.specs.declared.steps.StepKind.TheVariants.{Store}
use Rattle.record_memory.specs.declared.steps.Step.{Step}
use Rattle.record_memory.specs.declared.books.View.{View}
use Rattle.record_memory.specs.Memory.{address}
use Rattle.record_rule.specs.World.{range}
use Rattle.record_rule.specs.Kinds.{share_in, idle, drew_one, drawn_share, advanced_by}

-- a load of the caller's own cursor finds how many records it drew, and no more than its range has
abbrev pub ShowsDrawn : View → ℕ → ℕ → Type 0
ShowsDrawn v word n = word ≡ address v.setup.callers (Cursor v.own.caller) → v.setup.allocator ≡ Once → (n ≡ v.own.moves.drawn) × (n ≤ range v.setup)

-- the record that a caller draws after n others lies so far behind the first
abbrev pub own_place : View → ℕ → ℕ
own_place v n = v.setup.roots + v.own.caller * range v.setup + n

-- the step that stores one more than n in the caller's cursor, which was n
abbrev pub own_draw_step : View → ℕ → Step
own_draw_step v n = record { kind = Store; word = Cursor v.own.caller; held = None; found = n; left = n + 1; idle = idle v.own }

abbrev pub drew_own : View → ℕ → View
drew_own v n = advanced_by v (own_draw_step v n) (slice_set v.own.mine (own_place v n) (Some (drawn_share v.setup.first))) (drew_one v.own.moves)

-- the record is one of the table's, and the caller didn't have it before and now does
pub record DrewOwn (v : View) (n : ℕ) : Type 0 where
  pub within : own_place v n < v.setup.records
  pub before : share_in v (own_place v n + 1) ≡ None
  pub after : share_in (drew_own v n) (own_place v n + 1) ≡ Some (drawn_share v.setup.first)
