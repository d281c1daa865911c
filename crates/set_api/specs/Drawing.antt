-- How many records the calls of a set draw: an insertion takes a spare record of its caller's before it draws one.
use Rattle.std.specs.Prelude.{◌≡◌, ℕ, ◌+◌, ◌≤◌, false}
use Rattle.set_model.specs.declared.calls.Call.{Call}
use Rattle.set_model.specs.declared.calls.Call.TheVariants.{Insert}
use Rattle.set_model.specs.Machine.{is_insertion}
use Rattle.record_memory.specs.declared.books.Book.{Book}
use Rattle.record_memory.specs.declared.steps.Step.{Step}
use Rattle.record_memory.specs.declared.steps.Word.TheVariants.{Drawn}
use Rattle.record_rule.specs.Facts.{At}
use Rattle.record_rule.specs.Standings.{is_spare}
use Rattle.reclaim_api.specs.Frames.{had, AddsSteps}
use Rattle.record_pieces.specs.Events.{KeepsStock}
use Rattle.set_api.specs.declared.answer.Answer.{Answer}
use Rattle.set_api.specs.declared.answer.Answer.TheVariants.{Full, Again}

-- The caller had no spare record and drew none, and one of its steps found all these records drawn
pub record FindsAllDrawn (records : ℕ) (b c : Book) : Type 0 where
  pub spare : had is_spare b ≡ 0
  pub drawn : c.moves.drawn ≡ b.moves.drawn
  pub place : ℕ
  pub step : Step
  pub made : At c.steps place step
  pub word : step.word ≡ Drawn
  pub found : records ≤ step.found

-- Of calls that make these steps an insertion draws a record only where its caller has no spare one, and then one alone
pub record TakesSpareFirst (steps : Call → ℕ → Answer → Book → Book → Type 0) (records : ℕ) : Type 0 where
  pub adds : (call : Call) (budget : ℕ) (answer : Answer) (b c : Book) → steps call budget answer b c → AddsSteps b c
  -- no other call takes or leaves a record
  pub others : (call : Call) (budget : ℕ) (answer : Answer) (b c : Book) → is_insertion call ≡ false → steps call budget answer b c → KeepsStock b c
  pub one : (key budget : ℕ) (answer : Answer) (b c : Book) → steps (Insert key) budget answer b c → c.moves.drawn ≤ b.moves.drawn + 1
  pub spare_first : (key budget : ℕ) (answer : Answer) (b c : Book) → steps (Insert key) budget answer b c → 1 ≤ had is_spare b → c.moves.drawn ≡ b.moves.drawn
  -- what was drawn is spare where the insertion has to be made again
  pub given_back : (key budget hops : ℕ) (b c : Book) → steps (Insert key) budget (Again hops) b c → c.moves.drawn + had is_spare b ≤ b.moves.drawn + had is_spare c
  -- it is answered `Full` only where all records are drawn
  pub full : (key budget found : ℕ) (b c : Book) → steps (Insert key) budget (Full found) b c → FindsAllDrawn records b c
