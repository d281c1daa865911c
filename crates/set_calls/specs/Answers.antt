-- What a call's answer says of its caller's front and of its answered calls.
use Rattle.std.specs.Prelude.{◌≡◌, ℕ, List, [], ◌∷◌, ◌++◌, length, Bool, true, false, Some}
use Rattle.set_model.specs.declared.calls.Call.{Call}
use Rattle.set_model.specs.declared.calls.Call.TheVariants.{Insert, Remove, Search}
use Rattle.set_model.specs.declared.calls.Update.{Update}
use Rattle.set_model.specs.declared.calls.InsertAnswer.{InsertAnswer}
use Rattle.set_model.specs.declared.calls.InsertAnswer.TheVariants.{Done, Full, Again}
use Rattle.set_model.specs.declared.calls.LookAnswer.{LookAnswer}
use Rattle.set_model.specs.declared.calls.LookAnswer.TheVariants.{Done as Looked, Again as LookAgain}
use Rattle.record_memory.specs.declared.books.View.{View}
use Rattle.record_rule.specs.Laws.{with_update}
use Rattle.record_rule.specs.Machines.{replies_for}
use Rattle.record_rule.specs.World.{StartsWith}
use Rattle.record_rule.specs.Links.{read_at, entry_for, own_update}
use Rattle.manager.specs.Callers.{AnswersNone}

-- The call was decided: its update comes behind all that its caller knew to come before, and the front is the history up to it
pub record Decided (call : Call) (v w : View) : Type 0 where
  pub updates : List Update
  pub behind : StartsWith updates v.front
  pub front : w.front ≡ with_update updates (own_update v (Some call))
  pub answered : w.own.answered ≡ v.own.answered ++ entry_for (length updates) (Some call)

-- The call changed nothing: it was answered by the set as it was after the updates that are its caller's front from then on
pub record Read (call : Call) (reply : Bool) (v w : View) : Type 0 where
  pub behind : StartsWith w.front v.front
  pub replies : replies_for v.setup.set w.front call reply
  pub answered : w.own.answered ≡ v.own.answered ++ read_at (length w.front) call reply ∷ []

abbrev pub InsertTells : ℕ → InsertAnswer → View → View → Type 0
InsertTells key (Done true) v w = Decided (Insert key) v w
InsertTells key (Done false) v w = Read (Insert key) false v w
InsertTells key (Full found) v w = AnswersNone v w
InsertTells key (Again hops) v w = AnswersNone v w

abbrev pub RemoveTells : ℕ → LookAnswer → View → View → Type 0
RemoveTells key (Looked true) v w = Decided (Remove key) v w
RemoveTells key (Looked false) v w = Read (Remove key) false v w
RemoveTells key (LookAgain hops) v w = AnswersNone v w

abbrev pub SearchTells : ℕ → LookAnswer → View → View → Type 0
SearchTells key (Looked reply) v w = Read (Search key) reply v w
SearchTells key (LookAgain hops) v w = AnswersNone v w
