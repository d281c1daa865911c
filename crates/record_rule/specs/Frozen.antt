-- What a reclaimer owes beside its laws where callers follow links of marked records: what was taken out behind a guard's start stays there, and may be held.
use Rattle.std.specs.Prelude.{◌≡◌, ℕ, ◌≤◌, ◌&&◌, false, Option, Some}
use Rattle.record_memory.specs.declared.books.Setup.{Setup}
use Rattle.record_memory.specs.declared.books.Guard.{Guard}
use Rattle.row_words.specs.Refs.{RefParts}
use Rattle.record_rule.specs.Inputs.{SchemeInput}
use Rattle.record_rule.specs.Facts.{At, Moment, Reach, CoverFacts}
use Rattle.record_rule.specs.Guards.{started_if, holding}
use Rattle.record_rule.specs.Laws.{moment, with_guard, IsThere, IsSafe}

module _ (c : CoverFacts) where
  pub record FrozenLaws : Type 0 where
    -- What was taken out behind a started guard's start is still there
    pub stands : (setup : Setup) (x : SchemeInput) (d k : ℕ) (g : Guard) (q : Reach) (t : RefParts) → IsSafe setup x → c.covered setup x → At x.guards d g → c.may_reach g q → q.first ≡ false
        → g.start_taken_out ≤ k → At x.taken_out k t → IsThere x t g.start_taken_out
    -- And a link may be followed to it
    pub freezes : (setup : Setup) (x : SchemeInput) (d k updates : ℕ) (g : Guard) (q : Reach) (t : RefParts) → IsSafe setup x → c.covered setup x → At x.guards d g → c.may_reach g q → q.first ≡ false
        → g.start_taken_out ≤ k → At x.taken_out k t → c.covered setup (with_guard x d (c.reached (moment x updates) g q (Some t)))
    -- A load that follows a link holds at once what that leads to
    pub holds : (m : Moment) (g : Guard) (q : Reach) (t : Option RefParts) → c.reached m g q t ≡ holding (started_if (c.begins_loading && q.first) m g q.step) q.place t
    -- A guard has places for a walk that keeps what it passed
    pub many : 8 ≤ c.places
