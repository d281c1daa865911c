-- Where a walker of a list stands: at a node of which it knows the list and the rank.
use Rattle.std.specs.Prelude.{◌≡◌, ℕ, ◌+◌, ◌%◌, ◌<◌, Option, Some, None}
use Rattle.record_memory.specs.declared.books.Setup.{Setup}
use Rattle.record_rule.specs.Facts.{Near}
use Rattle.record_rule.specs.Links.{near_of}
use Rattle.record_table.specs.declared.passes.Pass.{Pass}
use Rattle.record_table.specs.declared.nodes.Held.{Held}
use Rattle.record_table.specs.declared.nodes.Node.{Node}
use Rattle.record_table.specs.declared.nodes.Node.TheVariants.{At}
use Rattle.record_table.specs.Handles.{view}
use Rattle.record_table.specs.Nodes.{origin, HoldsNode}
use Rattle.list_facts.specs.Steps.{rank_near, home_near, IsKeyed}

-- the list of this root has the key, if any list has
abbrev pub IsHome : Setup → ℕ → ℕ → Type 0
IsHome setup root key = (root < setup.roots) × (key % setup.roots ≡ root)

module _ {S R : Type 0} where
  -- what the pass knows of the node
  abbrev pub near : Pass S R → Node → Near
  near p node = near_of (view p) (origin node)

  -- its rank in its list: 0 for the root, and else the successor of its key
  abbrev pub rank : Pass S R → Node → ℕ
  rank p node = rank_near (near p node)

  -- it stands at the root, or at a record of its list that it holds, whose key it knows
  pub record StandsAt (p : Pass S R) (root : ℕ) (node : Node) : Type 0 where
    pub there : HoldsNode p node
    pub keyed : IsKeyed (near p node)
    pub home : home_near (view p).setup (near p node) ≡ root

  -- it stands before the key
  pub record StandsBefore (p : Pass S R) (root key : ℕ) (before : Node) : Type 0 where
    pub stands : StandsAt p root before
    pub below : rank p before < key + 1

  -- the next record, where there is one, has a greater key
  abbrev pub IsBeyond : Pass S R → ℕ → ℕ → Option Held → Type 0
  IsBeyond p root key None = Unit {0}
  IsBeyond p root key (Some next) = StandsAt p root (At next) × (key + 1 < rank p (At next))
