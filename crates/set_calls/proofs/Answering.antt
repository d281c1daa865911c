-- What an answer tells of the front from which its call began.
use Rattle.std.proofs.Common.{◌≡◌, ◌+◌, [], ◌∷◌, ◌++◌, length, List, ℕ, Bool, true, false, Some, refl, ap, ◌∙◌, subst}
use Rattle.set_model.specs.declared.calls.Call.{Call}
use Rattle.set_model.specs.declared.calls.Call.TheVariants.{Insert, Remove}
use Rattle.set_model.specs.declared.calls.Update.{Update}
use Rattle.set_model.specs.declared.calls.InsertAnswer.{InsertAnswer}
use Rattle.set_model.specs.declared.calls.InsertAnswer.TheVariants.{Done, Full, Again}
use Rattle.set_model.specs.declared.calls.LookAnswer.{LookAnswer}
use Rattle.set_model.specs.declared.calls.LookAnswer.TheVariants.{Done as Looked, Again as LookAgain}
use Rattle.record_memory.specs.declared.books.Setup.{Setup}
use Rattle.record_memory.specs.declared.books.View.{View}
use Rattle.record_memory.specs.declared.books.Answered.{Answered}
use Rattle.record_rule.specs.Machines.{replies_for}
use Rattle.record_rule.specs.World.{StartsWith}
use Rattle.record_rule.specs.Laws.{with_update}
use Rattle.record_rule.specs.Facts.{update_for}
use Rattle.record_rule.specs.Links.{read_at, entry_for}
use Rattle.manager.specs.Callers.{AnswersNone}
use Rattle.set_calls.specs.Answers.{Read, Decided, InsertTells, RemoveTells}

-- calls that answer none may come before an answer that was placed
pub read_since : (u v w : View) (call : Call) (reply : Bool) → v.setup ≡ u.setup → AnswersNone u v → Read call reply v w → Read call reply u w
read_since u v w call reply setup none read = record {
  behind = subst (λ (l : List Update). StartsWith w.front l) none.front read.behind;
  replies = subst (λ (k : Setup). replies_for k.set w.front call reply) setup read.replies;
  answered = read.answered ∙ ap (λ (l : List Answered). l ++ (read_at (length w.front) call reply ∷ [])) none.answered;
}

-- calls that answer none may come before a step that decides one, and after it
pub decided_between : (u v w x : View) (call : Call) → v.own.caller ≡ u.own.caller → AnswersNone u v → Decided call v w → AnswersNone w x → Decided call u x
decided_between u v w x call same before decided after = record {
  updates = decided.updates;
  behind = subst (λ (l : List Update). StartsWith decided.updates l) before.front decided.behind;
  front = after.front ∙ decided.front ∙ (λ k. with_update decided.updates (update_for (same k) (length (before.answered k) + 1) (Some call)));
  answered = after.answered ∙ decided.answered ∙ ap (λ (l : List Answered). l ++ entry_for (length decided.updates) (Some call)) before.answered;
}

-- calls that answer none may come one after another
pub none_then : (u v w : View) → AnswersNone u v → AnswersNone v w → AnswersNone u w
none_then u v w before after = record { answered = after.answered ∙ before.answered; front = after.front ∙ before.front }

-- and so before the last try of a removal, and of an insertion
pub removal_since : (u v w : View) (key : ℕ) (answer : LookAnswer) → v.own.caller ≡ u.own.caller → v.setup ≡ u.setup → AnswersNone u v → RemoveTells key answer v w → RemoveTells key answer u w
removal_since u v w key (Looked true) same setup none tells = decided_between u v w w (Remove key) same none tells (record { answered = refl; front = refl })
removal_since u v w key (Looked false) same setup none tells = read_since u v w (Remove key) false setup none tells
removal_since u v w key (LookAgain hops) same setup none tells = none_then u v w none tells

pub insertion_since : (u v w : View) (key : ℕ) (answer : InsertAnswer) → v.own.caller ≡ u.own.caller → v.setup ≡ u.setup → AnswersNone u v → InsertTells key answer v w → InsertTells key answer u w
insertion_since u v w key (Done true) same setup none tells = decided_between u v w w (Insert key) same none tells (record { answered = refl; front = refl })
insertion_since u v w key (Done false) same setup none tells = read_since u v w (Insert key) false setup none tells
insertion_since u v w key (Full found) same setup none tells = none_then u v w none tells
insertion_since u v w key (Again hops) same setup none tells = none_then u v w none tells
