-- What clauses say of a node, and of what a pass holds.
use Rattle.std.specs.Prelude.{◌≡◌, ◌≢◌, ℕ, ◌<◌, ◌≤◌, length, Bool, nat_lt, not, ◌+◌}
use Rattle.set_model.specs.declared.calls.Call.{Call}
use Rattle.record_memory.specs.declared.books.Setup.{Setup}
use Rattle.record_rule.specs.Placing.{MayPlace}
use Rattle.record_memory.specs.declared.books.View.{View}
use Rattle.record_table.specs.declared.nodes.Held.{Held}
use Rattle.record_table.specs.declared.nodes.Node.{Node}
use Rattle.record_table.specs.declared.nodes.Node.TheVariants.{Root, At}
use Rattle.record_table.specs.declared.passes.Pass.{Pass}
use Rattle.row_words.specs.Refs.{LinkParts}
use Rattle.row_words.specs.Packing.{link_in}
use Rattle.record_rule.specs.Facts.{Reach, ShapeFacts}
use Rattle.record_rule.specs.Links.{Origin, from_root, from_place, Holds, RefusedLink}
use Rattle.record_table.specs.Handles.{view, since}

abbrev pub origin_held : Held → Origin
origin_held h = from_place h.place h.target

abbrev pub origin : Node → Origin
origin (Root n) = from_root n
origin (At h) = origin_held h

-- it is in the table
abbrev pub IsInTable : Setup → Origin → Type 0
IsInTable setup (from_root n) = n < setup.roots
IsInTable setup (from_place p r) = r.index ≤ setup.records

module _ {S R : Type 0} where
  -- its guard started, which is later than it began
  abbrev pub HasStarted : Pass S R → Type 0
  HasStarted p = length (since p).own.steps < (view p).own.guard.start_step

  -- the pass holds the record there: it reached it since its guard began
  pub record HoldsThere (p : Pass S R) (h : Held) : Type 0 where
    pub started : HasStarted p
    pub within : h.target.index ≤ (view p).setup.records
    pub holds : Holds (view p) (origin_held h)

  -- a root of the table, or a record that the pass holds
  abbrev pub HoldsNode : Pass S R → Node → Type 0
  HoldsNode p (Root n) = n < (view p).setup.roots
  HoldsNode p (At h) = HoldsThere p h

  -- a load of a link now is the first one in its guard
  abbrev pub is_first : Pass S R → Bool
  is_first p = not (nat_lt (length (since p).own.steps) (view p).own.guard.start_step)

  -- the load by which the pass reaches something for this place
  abbrev pub reach_at : Pass S R → ℕ → Reach
  reach_at p place = record { place = place; first = is_first p; step = length (view p).own.steps + 1 }

-- its pass may place a read there, which is no earlier than its guard started
pub record MayPlaceIn (s : ShapeFacts) (v : View) (place : ℕ) (call : Call) (reply : Bool) : Type 0 where
  pub since_start : v.own.guard.start_updates ≤ place
  pub may : MayPlace s v place call reply

-- an exchange of the node's link from the expected one was refused: the word held this other link
pub record IsRefused (v : View) (o : Origin) (expected link : LinkParts) (w : View) : Type 0 where
  pub word : ℕ
  pub found : link ≡ link_in word
  pub another : link ≢ expected
  pub refused : RefusedLink v o 3 word w
