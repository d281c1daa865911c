-- What a reclaimer's calls leave as it was.
use Rattle.std.specs.Prelude.{◌≡◌, ◌≢◌, ℕ, ◌+◌, ◌-◌, ◌≤◌, ◌&&◌, slice_index_or, count_by, List, ◌++◌, length, Bool, false, Option, Some, None}
use Rattle.record_memory.specs.declared.steps.Step.{Step}
use Rattle.record_memory.specs.declared.books.Book.{Book}
use Rattle.record_memory.specs.declared.books.View.{View}
use Rattle.record_memory.specs.declared.books.Share.{Share}
use Rattle.record_memory.specs.declared.books.Standing.{Standing}
use Rattle.record_memory.specs.declared.books.Standing.TheVariants.{Handing, Own, Spare, TakenOut, Limbo, Free, Spent}
use Rattle.row_words.specs.declared.links.Chain.{Chain}
use Rattle.row_words.specs.declared.links.Freed.{Freed}
use Rattle.record_rule.specs.Facts.{Moment, CoverFacts}
use Rattle.record_rule.specs.Guards.{started_if}
use Rattle.record_rule.specs.Kinds.{retired_one, share_in, idle}
use Rattle.record_rule.specs.Standings.{is_limbo, is_spent}

-- what is known of a record that was retired and can't be handed out: in limbo, or spent; of others nothing
abbrev pub away_as : Share → Standing → Option Share
away_as h (Handing n) = None
away_as h Own = None
away_as h Spare = None
away_as h TakenOut = None
away_as h Limbo = Some h
away_as h Free = None
away_as h Spent = Some h

abbrev pub in_away : Option Share → Option Share
in_away None = None
in_away (Some h) = away_as h h.standing

-- the guard is the same, or started with a load of a link, where the reclaimer has guards start so: by a step that was made, and behind what the caller knew to come before
pub record GoesOn (c : CoverFacts) (v w : View) : Type 0 where
  pub first : Bool
  pub moment : Moment
  pub step : ℕ
  pub guard : w.own.guard ≡ started_if (c.begins_loading && first) moment v.own.guard step
  pub made : step ≤ length w.own.steps
  pub behind : length v.front ≤ moment.updates

-- all that a reclaimer's local part depends on is the same, but that the guard may have started
pub record SamePart (c : CoverFacts) (v w : View) : Type 0 where
  pub setup : w.setup ≡ v.setup
  pub caller : w.own.caller ≡ v.own.caller
  pub guard : GoesOn c v w
  -- it made no fewer steps, and knows no less to come before
  pub steps : length v.own.steps ≤ length w.own.steps
  pub front : length v.front ≤ length w.front
  pub away : (i : ℕ) → in_away (slice_index_or w.own.mine i None) ≡ in_away (slice_index_or v.own.mine i None)
  pub retired : w.own.moves.retired ≡ v.own.moves.retired
  pub births : w.own.moves.births ≡ v.own.moves.births

-- what is known of a record that a call which frees leaves alone
abbrev pub rest_as : Share → Standing → Option Share
rest_as h (Handing n) = Some h
rest_as h Own = Some h
rest_as h Spare = Some h
rest_as h TakenOut = Some h
rest_as h Limbo = None
rest_as h Free = None
rest_as h Spent = None

abbrev pub in_rest : Option Share → Option Share
in_rest None = None
in_rest (Some h) = rest_as h h.standing

-- of the records that aren't in limbo, free or spent, of its answered calls, and of the words that it has locked, the caller knows the same, and of moves it made none but those that freed records
pub record LeavesRest (v w : View) : Type 0 where
  pub rest : (i : ℕ) → in_rest (share_in w i) ≡ in_rest (share_in v i)
  pub moves : record w.own.moves { freed = v.own.moves.freed } ≡ v.own.moves
  pub answered : w.own.answered ≡ v.own.answered
  pub locks : w.own.locks ≡ v.own.locks
  pub front : w.front ≡ v.front

-- the same but for the record with this index, which was retired and is in limbo, free or spent now
pub record LeavesRestBut (i : ℕ) (v w : View) : Type 0 where
  pub rest : (j : ℕ) → j ≢ i - 1 → in_rest (slice_index_or w.own.mine j None) ≡ in_rest (slice_index_or v.own.mine j None)
  pub gone : in_rest (share_in w i) ≡ None
  pub moves : record w.own.moves { freed = v.own.moves.freed } ≡ retired_one v.own.moves
  pub answered : w.own.answered ≡ v.own.answered
  pub locks : w.own.locks ≡ v.own.locks
  pub front : w.front ≡ v.front

-- of each record, of its answered calls, and of the words that it has locked, the caller knows the same, and it made no move of a record
pub record LeavesRecords (v w : View) : Type 0 where
  pub mine : w.own.mine ≡ v.own.mine
  pub moves : w.own.moves ≡ v.own.moves
  pub answered : w.own.answered ≡ v.own.answered
  pub locks : w.own.locks ≡ v.own.locks
  pub front : w.front ≡ v.front

-- steps were added to those that the caller made
abbrev pub AddsSteps : Book → Book → Type 0
AddsSteps b c = (more : List Step) × (c.steps ≡ b.steps ++ more)

-- the caller has the record in a way that passes the test
abbrev pub is_as : (Standing → Bool) → Option Share → Bool
is_as test None = false
is_as test (Some h) = test h.standing

-- how many records it has so
abbrev pub had : (Standing → Bool) → Book → ℕ
had test b = count_by (is_as test) b.mine

-- as many are in limbo as it retired and didn't free
abbrev pub IsLimboLeft : Book → Type 0
IsLimboLeft b = had is_limbo b + b.moves.freed ≡ b.moves.retired

-- what left limbo and isn't spent is free, and stands in the chain of free records
pub record FreesInto (v : View) (before : Chain) (f : Freed) (w : View) (after : Chain) : Type 0 where
  pub idle : idle w.own + f.spent ≡ idle v.own + f.freed
  pub count : after.count + f.spent ≡ before.count + f.freed
  -- each that left limbo was freed
  pub freed : w.own.moves.freed ≡ v.own.moves.freed + f.freed
  -- and so many are spent
  pub spent : had is_spent w.own ≡ had is_spent v.own + f.spent
  pub limbo : IsLimboLeft v.own → IsLimboLeft w.own
