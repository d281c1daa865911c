-- Placing a read: the call's place is a number of updates from its pass's front on, up to what the pass has noted.
use Rattle.std.specs.Prelude.{◌≡◌, ℕ, ◌≤◌, [], ◌∷◌, ◌++◌, length, take, Bool, None}
use Rattle.set_model.specs.declared.calls.Call.{Call}
use Rattle.record_memory.specs.declared.books.View.{View}
use Rattle.record_rule.specs.Facts.{ShapeFacts}
use Rattle.record_rule.specs.Machines.{replies_for}
use Rattle.record_rule.specs.World.{StartsWith}
use Rattle.record_rule.specs.Kinds.{control_load}
use Rattle.record_rule.specs.Links.{with_step, read_at}

-- what is known after a read was placed behind the first p updates that the pass has seen
abbrev pub placed_view : View → ℕ → ℕ → ℕ → Call → Bool → View
placed_view v word n p call reply = record v {
  own = record (with_step v.own v.setup.records (control_load v word n)) { answered = v.own.answered ++ read_at p call reply ∷ [] };
  front = take p v.seen_updates;
}

-- The pass may place it there: behind its front, within what it has seen, and told what the machine tells there
pub record MayPlace (s : ShapeFacts) (v : View) (p : ℕ) (call : Call) (reply : Bool) : Type 0 where
  pub behind : length v.front ≤ p
  pub within : p ≤ length v.seen_updates
  pub replies : replies_for v.setup.set (take p v.seen_updates) call reply
  -- nobody else may decide its call
  pub unoffered : s.helped → v.own.offer ≡ None

-- What the pass had noted begins what it notes now, and its front is the same: it made steps that neither decided a call nor placed a read
pub record SeesMore (v w : View) : Type 0 where
  pub updates : StartsWith w.seen_updates v.seen_updates
  pub taken_out : StartsWith w.seen_taken_out v.seen_taken_out
  pub front : w.front ≡ v.front
  pub setup : w.setup ≡ v.setup
