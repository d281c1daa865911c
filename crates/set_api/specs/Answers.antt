-- What a call's answer says of its caller's front and of its answered calls.
use Rattle.std.specs.Prelude.{◌≡◌, true, false}
use Rattle.set_model.specs.declared.calls.Call.{Call}
use Rattle.set_model.specs.declared.calls.Call.TheVariants.{Insert, Remove, Search}
use Rattle.set_model.specs.declared.calls.InsertAnswer.{InsertAnswer}
use Rattle.set_model.specs.declared.calls.InsertAnswer.TheVariants as insertion
use Rattle.set_model.specs.declared.calls.LookAnswer.{LookAnswer}
use Rattle.set_model.specs.declared.calls.LookAnswer.TheVariants as look
use Rattle.record_memory.specs.declared.books.View.{View}
use Rattle.record_rule.specs.World.{StartsWith}
use Rattle.manager.specs.Callers.{AnswersNone}
use Rattle.set_calls.specs.Answers.{Decided, Read}
use Rattle.set_api.specs.declared.answer.Answer.{Answer}
use Rattle.set_api.specs.declared.answer.Answer.TheVariants.{Done, Full, Again}

abbrev pub of_insertion : InsertAnswer → Answer
of_insertion (insertion.Done added) = Done added
of_insertion (insertion.Full found) = Full found
of_insertion (insertion.Again hops) = Again hops

abbrev pub of_look : LookAnswer → Answer
of_look (look.Done was) = Done was
of_look (look.Again hops) = Again hops

-- what an answer says; only an insertion may find no record
abbrev pub Tells : Call → Answer → View → View → Type 0
Tells (Insert key) (Done true) v w = Decided (Insert key) v w
Tells (Insert key) (Done false) v w = Read (Insert key) false v w
Tells (Insert key) (Full found) v w = AnswersNone v w
Tells (Remove key) (Done true) v w = Decided (Remove key) v w
Tells (Remove key) (Done false) v w = Read (Remove key) false v w
Tells (Remove key) (Full found) v w = ⊥
Tells (Search key) (Done reply) v w = Read (Search key) reply v w
Tells (Search key) (Full found) v w = ⊥
Tells call (Again hops) v w = AnswersNone v w

-- a caller with view v learned what one with view u had seen, and nothing else
pub record Meets (u v w : View) : Type 0 where
  pub own : StartsWith w.front v.front
  pub met : StartsWith w.front u.front
  pub rest : w ≡ record v { front = w.front }
