-- The answered calls and the updates: each answered call stands once in the history, in its caller's order, and nothing else does.
use Rattle.std.specs.Prelude.{◌≡◌, ℕ, ◌+◌, ◌-◌, ◌<◌, ◌≤◌, ◌⊎◌, List, length, take, Bool, true, false, Option, Some}
use Rattle.set_model.specs.declared.calls.Update.{Update}
use Rattle.set_model.specs.Histories.{call_of}
use Rattle.record_memory.specs.declared.books.Answered.{Answered}
use Rattle.record_memory.specs.declared.books.Offer.{Offer}
use Rattle.set_model.specs.declared.names.SetName.{SetName}
use Rattle.record_rule.specs.Machines.{legal_for, replies_for}
use Rattle.record_rule.specs.Facts.{At, ShapeFacts}

-- the number of updates before the call's place, and behind it
abbrev pub before : Answered → ℕ
before a = a.position

abbrev pub after_by : Bool → ℕ → ℕ
after_by true p = p + 1
after_by false p = p

abbrev pub after : Answered → ℕ
after a = after_by a.decided a.position

module _ (s : ShapeFacts) (name : SetName) where
  -- the n-th answered call of caller c, from 0, is the update at its position
  pub record IsUpdate (updates : List Update) (c n : ℕ) (a : Answered) : Type 0 where
    pub update : Update
    pub at : At updates a.position update
    pub caller : update.caller ≡ c
    pub number : update.number ≡ n + 1
    pub call : call_of update ≡ a.call
    pub yes : a.reply ≡ true

  -- it is a read behind the first updates, and is told what the machine tells there
  pub record IsPlaced (updates : List Update) (a : Answered) : Type 0 where
    pub within : a.position ≤ length updates
    pub answered : replies_for name (take a.position updates) a.call a.reply

  abbrev pub IsExplained : Bool → List Update → ℕ → ℕ → Answered → Type 0
  IsExplained true updates c n a = IsUpdate updates c n a
  IsExplained false updates c n a = IsPlaced updates a

  -- the i-th update is an answered call of its caller's, under its number
  pub record IsAnswered (updates : List Update) (books : List (List Answered)) (i : ℕ) (u : Update) : Type 0 where
    pub book : List Answered
    pub at : At books u.caller book
    pub entry : Answered
    pub there : At book (u.number - 1) entry
    pub some_number : 0 < u.number
    pub decided : entry.decided ≡ true
    pub position : entry.position ≡ i

  -- the i-th update is the call that its caller has offered, and its caller hasn't taken it up
  pub record IsWaiting (offers : List (Option Offer)) (i : ℕ) (u : Update) : Type 0 where
    pub offer : Offer
    pub at : At offers u.caller (Some offer)
    pub number : u.number ≡ offer.number
    pub call : call_of u ≡ offer.call
    pub late : offer.since ≤ i

  -- an offer is of its caller's next call, and comes behind those before
  pub record IsOffered (updates : List Update) (book : List Answered) (o : Offer) : Type 0 where
    pub helped : s.helped
    pub number : o.number ≡ length book + 1
    pub since : o.since ≤ length updates
    pub behind : (n : ℕ) (a : Answered) → At book n a → after a ≤ o.since

  pub record HistoryFits (updates : List Update) (books : List (List Answered)) (offers : List (Option Offer)) : Type 0 where
    pub lawful : (i : ℕ) (u : Update) → At updates i u → legal_for name (take i updates) u
    pub explained : (c : ℕ) (book : List Answered) → At books c book → (n : ℕ) (a : Answered) → At book n a → IsExplained a.decided updates c n a
    pub ordered : (c : ℕ) (book : List Answered) → At books c book → (n m : ℕ) (a b : Answered) → At book n a → At book m b → n < m → after a ≤ before b
    -- each update is an answered call, or waits to be taken up
    pub answered : (i : ℕ) (u : Update) → At updates i u → IsAnswered updates books i u ⊎ IsWaiting offers i u
    -- and none is of the same call as another
    pub once : (i j : ℕ) (u w : Update) → At updates i u → At updates j w → u.caller ≡ w.caller → u.number ≡ w.number → i ≡ j
    pub offered : (c : ℕ) (book : List Answered) (o : Offer) → At books c book → At offers c (Some o) → IsOffered updates book o
