-- What a caller played: its calls one after another, each repeated until it is answered, with the replies that it was given.
use Rattle.std.specs.Prelude.{◌≡◌, ℕ, ◌≤◌, List, [], ◌∷◌, ◌++◌, length}
use Rattle.set_model.specs.declared.calls.Call.{Call}
use Rattle.set_model.specs.declared.calls.Reply.{Reply}
use Rattle.set_model.specs.declared.calls.Reply.TheVariants as reply
use Rattle.set_model.specs.Machine.{reply_of_answer}
use Rattle.record_memory.specs.declared.books.Book.{Book}
use Rattle.record_memory.specs.declared.books.View.{View}
use Rattle.record_rule.specs.World.{StartsWith}
use Rattle.set_api.specs.declared.answer.Answer.{Answer}
use Rattle.set_api.specs.declared.answer.Answer.TheVariants.{Done, Full, Again}
use Rattle.set_api.specs.Answers.{Tells}

-- the reply to a call with this answer; a call that may be made again has none
abbrev pub IsReplyOf : Answer → Reply → Type 0
IsReplyOf (Done answer) r = r ≡ reply_of_answer answer
IsReplyOf (Full found) r = r ≡ reply.Full
IsReplyOf (Again hops) r = ⊥

-- a caller knew of no more updates than so many, and learned of others up to so many at least, and nothing else
pub record Met (bound : ℕ) (v w : View) : Type 0 where
  pub before : length v.front ≤ bound
  pub behind : bound ≤ length w.front
  pub own : StartsWith w.front v.front
  pub rest : w ≡ record v { front = w.front }

-- by a set whose calls make these steps, within this budget of hops
module _ (steps : Call → ℕ → Answer → Book → Book → Type 0) (budget : ℕ) where
  -- one call of the set's, with its answer
  pub record Makes (call : Call) (answer : Answer) (v w : View) : Type 0 where
    pub tells : Tells call answer v w
    pub steps_are : steps call budget answer v.own w.own
    pub same : w.own.caller ≡ v.own.caller

  -- the call was made some times, and each time it had to be made again
  pub data Repeats (call : Call) : View → View → Type 0 where
    none : {v : View} → Repeats call v v
    again : {u v w : View} (hops : ℕ) → Repeats call u v → Makes call (Again hops) v w → Repeats call u w

  -- and then it was answered
  pub record Turn (call : Call) (r : Reply) (u w : View) : Type 0 where
    pub v : View
    pub answer : Answer
    pub repeats : Repeats call u v
    pub last : Makes call answer v w
    pub reply_is : IsReplyOf answer r

  -- calls one after another
  pub data Turns : List Call → List Reply → View → View → Type 0 where
    none : {v : View} → Turns [] [] v v
    next : {calls : List Call} {replies : List Reply} {u v w : View} {call : Call} {r : Reply} → Turns calls replies u v → Turn call r v w → Turns (calls ++ call ∷ []) (replies ++ r ∷ []) u w

  -- Phases one after another. Before each of them the caller learned what every caller had seen before: `bounds` has for
  -- each phase how many updates that were, at most before and at least behind.
  pub data Phases : List (List Call) → List Reply → List ℕ → View → View → Type 0 where
    none : {v : View} → Phases [] [] [] v v
    next : {phases : List (List Call)} {calls : List Call} {before replies : List Reply} {bounds : List ℕ} {u v w x : View} {bound : ℕ} → Phases phases before bounds u v → Met bound v w → Turns calls replies w x
        → Phases (phases ++ calls ∷ []) (before ++ replies) (bounds ++ bound ∷ []) u x
