-- What each kind of step does to what its caller knows.
use Rattle.std.specs.Prelude.{◌≡◌, ℕ, ◌+◌, ◌-◌, ◌<◌, ◌≤◌, List, [], ◌∷◌, ◌++◌, Bool, true, false, Option, Some, None, ◌⊎◌, slice_set, slice_index, slice_index_or, count_by, nat_lt, ◌==◌, if◌then◌else◌}
use mathlib.Core.Option.{some}
use lib.ListN.{get_elem?}
use Rattle.atomic_table.specs.Table.{State}
use Rattle.record_memory.specs.declared.steps.Word.{Word}
use Rattle.record_memory.specs.declared.steps.Word.TheVariants.{Drawn, Epoch, Lock, Blank, Shelf, Announced, Cursor, Field}
use Rattle.record_memory.specs.declared.steps.StepKind.{StepKind}
use Rattle.record_memory.specs.declared.steps.StepKind.TheVariants.{Load, Store, Swap, Add, Exchange}
use Rattle.record_memory.specs.declared.steps.Step.{Step}
use Rattle.record_memory.specs.declared.books.View.{View}
use Rattle.record_memory.specs.declared.books.Book.{Book}
use Rattle.record_memory.specs.declared.books.Share.{Share}
use Rattle.record_memory.specs.declared.books.Standing.{Standing}
use Rattle.record_memory.specs.declared.books.Standing.TheVariants.{Handing, Own, Spare, TakenOut, Limbo, Free, Spent}
use Rattle.record_memory.specs.declared.books.Moves.{Moves}
use Rattle.record_memory.specs.declared.books.Drawing.{Drawing}
use Rattle.record_memory.specs.declared.books.Drawing.TheVariants.{Unsure, Below, Past}
use Rattle.record_memory.specs.Memory.{address, word_at}
use Rattle.row_words.specs.Packing.{own_in, IsPackedLink}
use Rattle.record_rule.specs.Records.{blank_row, IsLinkField, IsLinkIn}

-- what the caller knows of record i
abbrev pub share_in : View → ℕ → Option Share
share_in v i = slice_index_or v.own.mine (i - 1) None

abbrev pub is_idle_as : Standing → Bool
is_idle_as (Handing n) = false
is_idle_as Own = false
is_idle_as Spare = true
is_idle_as TakenOut = false
is_idle_as Limbo = false
is_idle_as Free = true
is_idle_as Spent = false

-- it is free or spare of the caller
abbrev pub is_idle : Option Share → Bool
is_idle None = false
is_idle (Some h) = is_idle_as h.standing

-- how many records are free or spare of the caller
unfoldable pub idle : Book → ℕ
idle b = count_by is_idle b.mine

-- what the caller knows of the number of records drawn once its step found n there
abbrev pub drawing_found : ℕ → StepKind → ℕ → Drawing
drawing_found records Load n = if nat_lt n records then Below else Unsure
drawing_found records Store n = Unsure
drawing_found records Swap n = Unsure
drawing_found records Add n = if nat_lt n records then Unsure else Past
drawing_found records Exchange n = Unsure

abbrev pub drawing_on : ℕ → StepKind → Word → ℕ → Drawing
drawing_on records kind Drawn n = drawing_found records kind n
drawing_on records kind Epoch n = Unsure
drawing_on records kind Lock n = Unsure
drawing_on records kind Blank n = Unsure
drawing_on records kind (Shelf k) n = Unsure
drawing_on records kind (Announced k) n = Unsure
drawing_on records kind (Cursor c) n = Unsure
drawing_on records kind (Field i f) n = Unsure

abbrev pub drawing_after : Drawing → ℕ → Step → Drawing
drawing_after Unsure records t = drawing_on records t.kind t.word t.found
drawing_after Below records t = drawing_on records t.kind t.word t.found
drawing_after Past records t = Past

-- one more move of each kind
abbrev pub drew_one : Moves → Moves
drew_one m = record m { drawn = m.drawn + 1 }

abbrev pub reused_one : Moves → Moves
reused_one m = record m { reused = m.reused + 1 }

abbrev pub retired_one : Moves → Moves
retired_one m = record m { retired = m.retired + 1 }

abbrev pub gave_birth : Moves → Moves
gave_birth m = record m { births = m.births + 1 }

-- and several that freed a record
abbrev pub freed_more : Moves → ℕ → Moves
freed_more m n = record m { freed = m.freed + n }

-- the caller made one more step, and this is what it then knows of the records that it has, and how many moves of records it made
abbrev pub advanced_by : View → Step → List (Option Share) → Moves → View
advanced_by v t mine moves = record v { own = record v.own { steps = v.own.steps ++ t ∷ []; mine = mine; drawing = drawing_after v.own.drawing v.setup.records t; moves = moves } }

-- the same with as many moves as before
abbrev pub advanced : View → Step → List (Option Share) → View
advanced v t mine = advanced_by v t mine v.own.moves

-- a load of a control word that found n
abbrev pub control_load : View → ℕ → ℕ → Step
control_load v word n = record { kind = Load; word = word_at v.setup.callers word; held = None; found = n; left = n; idle = idle v.own }

abbrev pub loaded_control : View → ℕ → ℕ → View
loaded_control v word n = advanced v (control_load v word n) v.own.mine

-- a look at the number of records drawn that finds one left shows that the caller never went past the last one
abbrev pub ShowsBelow : View → ℕ → ℕ → Type 0
ShowsBelow v word n = word ≡ address v.setup.callers Drawn → n < v.setup.records → (loaded_control v word n).own.drawing ≡ Below

-- the step that adds 1 to the number of records drawn, which was n
abbrev pub draw_step : View → ℕ → Step
draw_step v n = record { kind = Add; word = Drawn; held = None; found = n; left = n + 1; idle = idle v.own }

-- a record that was just drawn
abbrev pub drawn_share : ℕ → Share
drawn_share first = record { standing = Handing 0; generation = first; taken_number = 0; words = blank_row first }

abbrev pub drew : View → ℕ → View
drew v n = advanced_by v (draw_step v n) (if nat_lt n v.setup.records then slice_set v.own.mine n (Some (drawn_share v.setup.first)) else v.own.mine) (if nat_lt n v.setup.records then drew_one v.own.moves else v.own.moves)

-- where a record was left, the caller didn't have it before and now does
abbrev pub DrewNew : View → ℕ → Type 0
DrewNew v n = n < v.setup.records → (share_in v (n + 1) ≡ None) × (share_in (drew v n) (n + 1) ≡ Some (drawn_share v.setup.first))

-- which word of a record its owner may store next
abbrev pub MayStoreAs : Standing → ℕ → Type 0
MayStoreAs (Handing n) f = f ≡ n
MayStoreAs Own f = (f ≡ 1) ⊎ ((3 ≤ f) × (f < 8))
MayStoreAs Spare f = f ≡ 1
MayStoreAs TakenOut f = f ≡ 1
MayStoreAs Limbo f = f ≡ 1
MayStoreAs Free f = f ≡ 1
MayStoreAs Spent f = f ≡ 1

-- the caller may store this value in word f of a record that it has
pub record MayStore (h : Share) (f value : ℕ) : Type 0 where
  pub field : MayStoreAs h.standing f
  pub below : f < 8
  pub own : own_in value ≡ h.generation
  pub link : IsLinkField f → IsLinkIn f value

-- the eighth word ends the handing out
abbrev pub standing_after : Standing → Standing
standing_after (Handing n) = if n == 7 then Own else Handing (n + 1)
standing_after Own = Own
standing_after Spare = Spare
standing_after TakenOut = TakenOut
standing_after Limbo = Limbo
standing_after Free = Free
standing_after Spent = Spent

abbrev pub EndsHanding : Standing → Type 0
EndsHanding (Handing n) = n ≡ 7
EndsHanding Own = ⊥
EndsHanding Spare = ⊥
EndsHanding TakenOut = ⊥
EndsHanding Limbo = ⊥
EndsHanding Free = ⊥
EndsHanding Spent = ⊥

-- and the record is the caller's own with it
abbrev pub moves_stored : Standing → Moves → Moves
moves_stored (Handing n) m = if n == 7 then gave_birth m else m
moves_stored Own m = m
moves_stored Spare m = m
moves_stored TakenOut m = m
moves_stored Limbo m = m
moves_stored Free m = m
moves_stored Spent m = m

abbrev pub share_after : Share → ℕ → ℕ → Share
share_after h f value = record h { standing = standing_after h.standing; words = slice_set h.words f value }

-- the owner's store of word f of record i
abbrev pub field_store : View → ℕ → ℕ → ℕ → Share → Step
field_store v i f value h = record { kind = Store; word = Field i f; held = None; found = slice_index_or h.words f 0; left = value; idle = idle v.own }

abbrev pub stored_as : View → ℕ → ℕ → ℕ → Option Share → View
stored_as v i f value None = v
stored_as v i f value (Some h) = advanced_by v (field_store v i f value h) (slice_set v.own.mine (i - 1) (Some (share_after h f value))) (moves_stored h.standing v.own.moves)

abbrev pub stored : View → ℕ → ℕ → ℕ → View
stored v i f value = stored_as v i f value (share_in v i)

-- the owner's load of word f of record i
abbrev pub field_load : View → ℕ → ℕ → ℕ → Step
field_load v i f n = record { kind = Load; word = Field i f; held = None; found = n; left = n; idle = idle v.own }

abbrev pub loaded : View → ℕ → ℕ → ℕ → View
loaded v i f n = advanced v (field_load v i f n) v.own.mine

-- the owner finds what it knows
abbrev pub IsKnownAs : Option Share → ℕ → ℕ → Type 0
IsKnownAs None f n = Unit {0}
IsKnownAs (Some h) f n = (n ≡ slice_index_or h.words f 0) × (f ≡ 1 → IsPackedLink n)

abbrev pub IsKnown : View → ℕ → ℕ → ℕ → Type 0
IsKnown v i f n = IsKnownAs (share_in v i) f n

-- the owner stores over what it knows
abbrev pub IsOverAs : Option Share → ℕ → ℕ → Type 0
IsOverAs None f n = Unit {0}
IsOverAs (Some h) f n = n ≡ slice_index_or h.words f 0

abbrev pub IsOver : View → ℕ → ℕ → ℕ → Type 0
IsOver v i f n = IsOverAs (share_in v i) f n

-- a step on a control word that left it as `left`
abbrev pub control_step : View → StepKind → ℕ → ℕ → ℕ → Step
control_step v kind word found left = record { kind = kind; word = word_at v.setup.callers word; held = None; found = found; left = left; idle = idle v.own }

-- the caller made the step, and nothing else that it knows changes
abbrev pub made_step : View → Step → View
made_step v t = advanced v t v.own.mine

-- Whatever the table is, the pass in seat id, which knows v, can know something afterwards of which `told` holds with the value found, and the rule stays, when this word becomes f of what it was
abbrev pub Lawful : (State (Unit {0}) View → Type 0) → ℕ → View → ℕ → (ℕ → ℕ) → (ℕ → View → Type 0) → Type 0
Lawful holds id v word f told = (s : State (Unit {0}) View) → holds s → get_elem? s.views id ≡ some v
    → (w : View) × holds record { words = slice_set s.words word (f (slice_index s.words word)); homes = s.homes; views = slice_set s.views id w } × told (slice_index s.words word) w
