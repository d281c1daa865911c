-- What a caller has seen of a key, and what may be answered then.
use Rattle.std.specs.Prelude.{◌≡◌, ℕ, ◌≤◌, List, length, Bool, true, false}
use Rattle.set_model.specs.declared.calls.Call.{Call}
use Rattle.set_model.specs.declared.calls.Call.TheVariants.{Insert, Remove, Search}
use Rattle.set_model.specs.declared.calls.Update.{Update}
use Rattle.set_model.specs.declared.names.SetName.{SetName}
use Rattle.set_model.specs.declared.names.SetName.TheVariants.{Plain, Michael, Lazy}
use Rattle.set_model.specs.Keys.{contains}
use Rattle.set_model.specs.Histories.{keys_of}
use Rattle.record_rule.specs.World.{StartsWith}
use Rattle.record_table.specs.declared.passes.Pass.{Pass}
use Rattle.record_table.specs.Handles.{view}
use Rattle.record_table.specs.Nodes.{HasStarted}

-- the sets whose machine is that of a set of keys
pub data IsOfKeys : SetName → Type 0 where
  of_plain : IsOfKeys Plain
  of_michael : IsOfKeys Michael
  of_lazy : IsOfKeys Lazy

-- how a call that changes nothing is answered where its key is present, or isn't
pub data IsAnswer : Call → Bool → Bool → Type 0 where
  insertion : (key : ℕ) → IsAnswer (Insert key) true false
  removal : (key : ℕ) → IsAnswer (Remove key) false false
  search_ : (key : ℕ) (present : Bool) → IsAnswer (Search key) present present

-- the key is in the set, or isn't, after so many updates, which the pass has seen, no fewer than when its guard started
pub record HasSeenKey {S R : Type 0} (p : Pass S R) (key : ℕ) (present : Bool) (position : ℕ) : Type 0 where
  pub of_keys : IsOfKeys (view p).setup.set
  pub updates : List Update
  pub many : length updates ≡ position
  pub seen : StartsWith (view p).seen_updates updates
  pub front : StartsWith updates (view p).front
  pub started : HasStarted p
  pub since_start : (view p).own.guard.start_updates ≤ length updates
  pub answer : contains (keys_of updates) key ≡ present
