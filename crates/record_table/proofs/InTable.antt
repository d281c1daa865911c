-- What a pass holds is in its table.
use Rattle.std.proofs.Common.{◌≡◌, ℕ, ap, ◌∙◌, arith}
use Rattle.record_memory.specs.declared.steps.Word.TheVariants.{Field}
use Rattle.record_memory.specs.Memory.{address}
use Rattle.record_memory.specs.declared.books.Setup.{Setup}
use Rattle.record_table.specs.declared.nodes.Node.{Node}
use Rattle.record_table.specs.declared.nodes.Node.TheVariants.{Root, At}
use Rattle.record_table.specs.declared.passes.Pass.{Pass}
use Rattle.record_rule.specs.Links.{Holds}
use Rattle.record_table.specs.Handles.{view}
use Rattle.record_table.specs.Nodes.{origin, IsInTable, HoldsNode}

module _ {S R : Type 0} (setup : Setup) (p : Pass S R) (same : (view p).setup ≡ setup) where
  pub in_table : (node : Node) → HoldsNode p node → IsInTable setup (origin node)
  in_table (Root n) h = let e = ap (λ (k : Setup). k.roots) same in omega arith
  in_table (At held) h = let e = ap (λ (k : Setup). k.records) same in let w = h.within in omega arith

  pub holds_node : (node : Node) → HoldsNode p node → Holds (view p) (origin node)
  holds_node (Root n) h = h
  holds_node (At held) h = h.holds

-- where the word of a set's link lies
pub link_place : (callers i f word : ℕ) → word ≡ address callers (Field i f) → f ≡ 3 → word ≡ address callers (Field i 3)
link_place callers i f word is three = is ∙ ap (λ (k : ℕ). address callers (Field i k)) three
