-- When a caller's guard started, without reclamation: with its first load of a link, behind all that it knew to come before.
use Rattle.std.proofs.Common.{◌≡◌, ℕ, ◌<◌, ◌≤◌, ◌&&◌, length, Bool, true, false, Option, sym, refl, ap, subst, arith}
use Rattle.record_memory.specs.declared.books.Guard.{Guard}
use Rattle.record_memory.specs.declared.books.View.{View}
use Rattle.row_words.specs.Refs.{RefParts}
use Rattle.record_rule.specs.Facts.{Moment}
use Rattle.record_rule.specs.Guards.{started_if}
use Rattle.reclaim_api.specs.Following.{holds_at}
use Rattle.reclaim_api.specs.Frames.{SamePart}
use Rattle.cover_facts.specs.Keeping.{none}

-- inside an operation a guard that started since did so behind what its caller knew then
abbrev pub IsBehind : Bool → View → View → Type 0
IsBehind true s v = (length s.front ≤ length v.front) × (length s.own.steps < v.own.guard.start_step → length s.front ≤ v.own.guard.start_updates)
IsBehind false s v = Unit {0}

-- its guard started with a step that was made
pub record IsStarting (inside : Bool) (s v : View) : Type 0 where
  pub made : v.own.guard.start_step ≤ length v.own.steps
  pub behind : IsBehind inside s v

-- the local part is this caller's by that alone
abbrev pub IsLocal : {L : Type 0} → L → Bool → View → View → Type 0
IsLocal l inside s v = IsStarting inside s v

-- so it is after steps that leave the guard, or start it
pub starting_still : (inside : Bool) (s v w : View) → SamePart none v w → IsStarting inside s v → IsStarting inside s w
starting_still inside s v w same h = record {
  made = subst (λ (g : Guard). g.start_step ≤ length w.own.steps) (sym same.guard.guard) (made same.guard.first);
  behind = by inside h.behind;
}
  where
    made : (b : Bool) → (started_if b same.guard.moment v.own.guard same.guard.step).start_step ≤ length w.own.steps
    made true = same.guard.made
    made false = omega (arith, h.made, same.steps)

    starts : (b : Bool) → IsBehind true s v → length s.own.steps < (started_if b same.guard.moment v.own.guard same.guard.step).start_step → length s.front ≤ (started_if b same.guard.moment v.own.guard same.guard.step).start_updates
    starts true k started = omega (arith, k.0, same.guard.behind)
    starts false k started = k.1 started

    by : (b : Bool) → IsBehind b s v → IsBehind b s w
    by true k = (omega (arith, k.0, same.front), λ started. subst (λ (g : Guard). length s.front ≤ g.start_updates) (sym same.guard.guard) (starts same.guard.first k (subst (λ (g : Guard). length s.own.steps < g.start_step) same.guard.guard started)))
    by false k = tt

-- whatever it holds
pub starting_holds : (s v : View) (place : ℕ) (t : Option RefParts) → IsStarting true s v → IsStarting true s (holds_at v place t)
starting_holds s v place t h = record { made = h.made; behind = h.behind }
