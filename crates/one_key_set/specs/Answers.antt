-- What each answer says of its caller's front and of its answered calls.
use Rattle.std.specs.Prelude.{ℕ, Bool, true, false, Option, Some, None}
use Rattle.set_model.specs.declared.calls.Call.{Call}
use Rattle.set_model.specs.declared.calls.Call.TheVariants.{Insert, Search}
use Rattle.record_memory.specs.declared.books.View.{View}
use Rattle.manager.specs.Callers.{AnswersNone}
use Rattle.set_calls.specs.Answers.{Decided, Read}
use Rattle.one_key_set.specs.declared.answers.Added.{Added}
use Rattle.one_key_set.specs.declared.answers.Added.TheVariants.{Done, Full, Again}

-- what each answer says: yes was decided, no was read, and at every other one no call was answered and the caller's front is as before
abbrev pub Tells : Call → Option Bool → View → View → Type 0
Tells call (Some true) v w = Decided call v w
Tells call (Some false) v w = Read call false v w
Tells call None v w = AnswersNone v w

-- a search is read, be its answer yes or no
abbrev pub SearchTells : ℕ → Option Bool → View → View → Type 0
SearchTells key (Some reply) v w = Read (Search key) reply v w
SearchTells key None v w = AnswersNone v w

abbrev pub InsertTells : ℕ → Added → View → View → Type 0
InsertTells key (Done added) v w = Tells (Insert key) (Some added) v w
InsertTells key (Full found) v w = AnswersNone v w
InsertTells key Again v w = AnswersNone v w

-- the answer of a try that adds, and of one that takes away
abbrev pub added_if : Bool → Added
added_if true = Done true
added_if false = Again

abbrev pub some_if : Bool → Option Bool
some_if true = Some true
some_if false = None
