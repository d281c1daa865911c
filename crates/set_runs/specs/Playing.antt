-- What a caller at play has before a phase, and what comes of it.
use Rattle.std.specs.Prelude.{◌≡◌, ℕ, ◌+◌, ◌≤◌, ◌<◌, List, [], ◌++◌, length, map, take, sum_by, slice_index_or, vec_capacity}
use Rattle.set_model.specs.declared.calls.Call.{Call}
use Rattle.set_model.specs.declared.calls.Reply.{Reply}
use Rattle.record_memory.specs.declared.books.Book.{Book}
use Rattle.record_memory.specs.declared.books.View.{View}
use Rattle.record_rule.specs.World.{StartsWith}
use Rattle.set_api.specs.declared.answer.Answer.{Answer}
use Rattle.set_api.specs.Turns.{Met, Turns, Phases}
use Rattle.set_runs.specs.declared.players.Player.{Player}

-- the phases of a caller, and its calls in one of them
abbrev pub phases_of : List (List (List Call)) → ℕ → List (List Call)
phases_of lists number = slice_index_or lists number []

abbrev pub calls_at : List (List (List Call)) → ℕ → ℕ → List Call
calls_at lists number phase = slice_index_or (phases_of lists number) phase []

-- R holds of two lists of one length, place by place
pub record AtEach {X : Type 0} (R : ℕ → X → X → Type 0) (xs ys : List X) : Type 0 where
  pub same_length : length ys ≡ length xs
  pub each : (i : ℕ) (d : X) → i < length xs → R i (slice_index_or xs i d) (slice_index_or ys i d)

module _ {T C : Type 0} (has : T → C → Type 0) (set : T) where
  -- it is the same caller at play, with the replies that it had
  pub record IsSamePlayer (p q : Player C) : Type 0 where
    pub has_it : has set q.caller
    pub same_number : q.number ≡ p.number
    pub same_replies : q.replies ≡ p.replies

  -- which knows what it knew
  pub record Stays (view : C → View) (p q : Player C) : Type 0 where
    pub same : IsSamePlayer p q
    pub same_view : view q.caller ≡ view p.caller

  -- which knows of further updates, and of nothing else
  pub record Learns (view : C → View) (p q : Player C) : Type 0 where
    pub same : IsSamePlayer p q
    pub own : StartsWith (view q.caller).front (view p.caller).front
    pub rest : view q.caller ≡ record (view p.caller) { front = (view q.caller).front }

  -- which met all others
  pub record HasMet (view : C → View) (bound : ℕ) (p q : Player C) : Type 0 where
    pub same : IsSamePlayer p q
    pub met : Met bound (view p.caller) (view q.caller)

-- on a set whose callers are these, by what they know
module _ {T C : Type 0} (has : T → C → Type 0) (set : T) (lists : List (List (List Call))) (phase : ℕ) where
  -- it may play the phase: there is room for the replies
  pub record IsReady (p : Player C) : Type 0 where
    pub has_it : has set p.caller
    pub number : p.number < length lists
    pub few_calls : length p.replies.items + length (calls_at lists p.number phase) ≤ 1000000
    pub room : length p.replies.items + length (calls_at lists p.number phase) ≤ vec_capacity p.replies

  -- it played the phase
  pub record HasPlayed (view : C → View) (steps : Call → ℕ → Answer → Book → Book → Type 0) (budget : ℕ) (p q : Player C) : Type 0 where
    pub has_it : has set q.caller
    pub same_number : q.number ≡ p.number
    pub replies : List Reply
    pub noted : q.replies.items ≡ p.replies.items ++ replies
    pub turns : Turns steps budget (calls_at lists p.number phase) replies (view p.caller) (view q.caller)
    pub same_capacity : vec_capacity p.replies ≤ vec_capacity q.replies

  -- Before the phase with this number, counted from 0: it has played those before, from what it knew at the beginning, and has
  -- room for the replies to all its calls
  pub record IsAt (view : C → View) (steps : Call → ℕ → Answer → Book → Book → Type 0) (budget : ℕ) (bounds : List ℕ) (number : ℕ) (start : View) (p : Player C) : Type 0 where
    pub has_it : has set p.caller
    pub number_is : p.number ≡ number
    pub played : Phases steps budget (take phase (phases_of lists number)) p.replies.items bounds start (view p.caller)
    pub counted : length p.replies.items ≡ sum_by length (take phase (phases_of lists number))
    pub room : sum_by length (phases_of lists number) ≤ vec_capacity p.replies

-- it is this caller's, which has this number and has made no call yet, with room for the replies to all its calls
pub record IsSeated {C : Type 0} (lists : List (List (List Call))) (number : ℕ) (p : Player C) : Type 0 where
  pub number_is : p.number ≡ number
  pub none : p.replies.items ≡ []
  pub room : sum_by length (phases_of lists number) ≤ vec_capacity p.replies

-- they are these callers' in order of number
pub record AreSeated {C : Type 0} (lists : List (List (List Call))) (callers : List C) (players : List (Player C)) : Type 0 where
  pub callers_are : map (λ p. p.caller) players ≡ callers
  pub each : (i : ℕ) (d : Player C) → i < length players → IsSeated lists i (slice_index_or players i d)
