-- A try to hold by one load of the link, as a step and its answer.
use Rattle.std.specs.Prelude.{◌≡◌, ℕ, [], ◌∷◌, ◌++◌, Some, None}
use Rattle.record_memory.specs.declared.steps.Word.TheVariants.{Field}
use Rattle.record_memory.specs.declared.steps.StepKind.TheVariants.{Load}
use Rattle.record_memory.specs.declared.steps.Step.{Step}
use Rattle.record_memory.specs.declared.books.Setup.{Setup}
use Rattle.record_memory.specs.declared.books.Book.{Book}
use Rattle.row_words.specs.Refs.{LinkParts}
use Rattle.row_words.specs.Packing.{link_in}
use Rattle.record_rule.specs.Facts.{mark_bit}
use Rattle.record_rule.specs.Kinds.{idle}
use Rattle.record_rule.specs.Links.{index_of, held_at}
use Rattle.record_table.specs.declared.nodes.Node.{Node}
use Rattle.record_table.specs.Nodes.{origin}
use Rattle.reclaim_api.specs.declared.holding.Holding.{Holding}
use Rattle.reclaim_api.specs.declared.holding.Holding.TheVariants.{Null, Held, Marked, Moved}

-- the one load of the node's link
abbrev pub link_load : Book → Node → ℕ → ℕ → Step
link_load b from field n = record { kind = Load; word = Field (index_of (origin from)) field; held = held_at (origin from); found = n; left = n; idle = idle b }

-- what a link that was loaded is answered with
abbrev pub Answers : LinkParts → Holding → Type 0
Answers link Null = (mark_bit link ≡ 0) × (link.target ≡ None)
Answers link (Held h) = (mark_bit link ≡ 0) × (link.target ≡ Some h.target)
Answers link (Marked m) = (mark_bit link ≡ 1) × (m ≡ link)
Answers link (Moved n) = ⊥

-- a try to hold is one load of the link, answered by what it found
pub record ReachesByLoad (setup : Setup) (place : ℕ) (from : Node) (field : ℕ) (b : Book) (h : Holding) (c : Book) : Type 0 where
  pub found : ℕ
  pub steps : c.steps ≡ b.steps ++ link_load b from field found ∷ []
  pub answer : Answers (link_in found) h
