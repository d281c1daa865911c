-- A lock is taken, or taken off: the lists are as they were, and so is what ties them to the history.
use Rattle.std.proofs.Common.{◌≡◌, ℕ, ◌<◌, length, set, None}
use Rattle.row_words.specs.Refs.{LinkParts}
use Rattle.row_words.specs.Packing.{IsLink}
use Rattle.record_memory.specs.declared.books.Setup.{Setup}
use Rattle.record_rule.specs.Inputs.{ShapeInput, Trace}
use Rattle.record_rule.specs.Facts.{At, with_link, HasMark, Near, ShapeFacts}
use Rattle.record_rule.specs.Laws.{NodeIs, relinked, grown}
use Rattle.list_facts.proofs.Nodes.{cell_near, node_at, relinked_is}
use Rattle.list_facts.proofs.Turning.{turn_fits}
use Rattle.list_facts.proofs.Told.{told_turned}
use Rattle.lazy_facts.specs.Lazy.{LazyFits, LazyTold}
use Rattle.lazy_facts.proofs.Targets.{seen_turned, marked_turned}
use Rattle.lazy_facts.proofs.Keeping.{KeepsTargets, absences_kept, up_kept}

-- a link without a mark gets other flags, and no mark
module _ {setup : Setup} {x : ShapeInput} {h : Trace} (fits : LazyFits setup x) (told : LazyTold setup x h) {s : ShapeFacts} {near : Near} {f : ℕ} {old new : LinkParts} (n : NodeIs s x.cells near f old) (in_range : IsLink new)
    (field : f ≡ 3) (old_clear : ¬ HasMark old) (new_clear : ¬ HasMark new) (same : new.target ≡ old.target) (flagged : new.flags < 3) where
  -- the node's cell
  at_node : At x.cells n.index (cell_near near n.generation n.body n.marked)
  at_node = node_at fits.lists n field old_clear

  -- no key changed
  targets : (m : ℕ) → KeepsTargets x.cells (set x.cells n.index (cell_near near n.generation (with_link n.body f n.generation new) m))
  targets m i k body b t marked leads = seen_turned n field new m in_range x.cells at_node t b

  -- the table after the step
  abbrev relocked : ShapeInput
  relocked = record x { cells = set x.cells n.index (relinked s x.cells near f old n new (length h.updates)) }

  -- the lists are sorted still, and all that marked records say stays
  pub relocks : LazyFits setup relocked × LazyTold setup relocked (grown h None)
  relocks = (
    rw (relinked_is fits.lists n field old_clear) record {
      lists = turn_fits fits.lists n field old_clear new _ in_range same flagged (λ root. new_clear);
      up = up_kept setup x.cells _ (targets _) (marked_turned n field new _ in_range x.cells at_node new_clear) fits.up;
    },
    rw (relinked_is fits.lists n field old_clear) record {
      list = told_turned n field old_clear new _ in_range new_clear told.list at_node;
      absences = absences_kept setup x.cells _ (targets _) (marked_turned n field new _ in_range x.cells at_node new_clear) h None told.absences;
    },
  )
