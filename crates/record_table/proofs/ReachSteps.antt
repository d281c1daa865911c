-- The load by which a pass reaches what a link of its node leads to.
use Rattle.std.proofs.Common.{◌≡◌, ℕ, refl, arith, inr}
use Rattle.record_memory.specs.declared.steps.Word.TheVariants.{Field}
use Rattle.record_memory.specs.Memory.{address}
use Rattle.record_memory.specs.declared.books.Setup.{Setup}
use Rattle.record_rule.specs.Facts.{CoverFacts}
use Rattle.record_rule.specs.Links.{index_of}
use Rattle.record_rule.proofs.Reaches.{IsReachStep}
use Rattle.record_table.specs.declared.nodes.Node.{Node}
use Rattle.record_table.specs.declared.passes.Pass.{Pass}
use Rattle.record_table.specs.declared.table.Table.{Table}
use Rattle.record_table.specs.Handles.{setup_of, view, IsPassOf}
use Rattle.record_table.specs.Nodes.{origin, HoldsNode, reach_at}
use Rattle.record_table.proofs.InTable.{holds_node, link_place}

-- it is one that the rule allows, for its place
pub reach_step : {S R : Type 0} (c : CoverFacts) (t : Table S R) (p : Pass S R) → IsPassOf t p → (from : Node) → HoldsNode p from → (field word place : ℕ) → word ≡ address (setup_of t).callers (Field (index_of (origin from)) field) → field ≡ 3
    → c.may_reach (view p).own.guard (reach_at p place) → IsReachStep c (setup_of t) word 3 (view p) (origin from) (reach_at p place)
reach_step c t p its from hold field word place word_is three may = record {
  present = its.present;
  same = its.setup;
  word_is = link_place (setup_of t).callers (index_of (origin from)) field word word_is three;
  low = omega arith;
  below = omega arith;
  field = inr refl;
  hold = holds_node (setup_of t) p its.setup from hold;
  may = may;
  step = refl;
}
