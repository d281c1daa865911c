-- What the mark of a record leaves: its removal is decided, and its link is known from then on.
use Rattle.std.proofs.Common.{◌≡◌, ℕ, ◌+◌, ◌-◌, true, eqb, Some, refl, ap, ◌∙◌, arith}
use Rattle.set_model.specs.declared.calls.Call.TheVariants.{Remove}
use Rattle.record_memory.specs.declared.books.Setup.{Setup}
use Rattle.record_memory.specs.declared.books.View.{View}
use Rattle.row_words.specs.Refs.{LinkParts}
use Rattle.row_words.specs.Packing.{link_in, IsLink}
use Rattle.row_words.proofs.Packed.{link_in-packed_link}
use Rattle.record_rule.specs.Facts.{mark_bit, link_at}
use Rattle.record_rule.specs.Links.{Origin, near_of, ExchangedLink}
use Rattle.list_facts.specs.Michael.{michael}
use Rattle.list_facts.specs.Steps.{list_settled, marked_with, MayMark}
use Rattle.record_table.specs.declared.passes.Pass.{Pass}
use Rattle.record_table.specs.declared.nodes.Held.{Held}
use Rattle.record_table.specs.declared.nodes.Node.TheVariants.{At}
use Rattle.record_table.specs.Handles.{view}
use Rattle.record_table.specs.Nodes.{origin_held}
use Rattle.reclaim_api.proofs.Noting.{left_notes}
use Rattle.set_calls.specs.Answers.{Decided}
use Rattle.list_calls.specs.Standing.{rank, StandsAt}
use Rattle.michael_list.specs.Knowing.{IsMarkNoted}

-- a removal is decided by the step that it names
pub removal_decided : (v w : View) (o : Origin) (key : ℕ) (old new : LinkParts) → ExchangedLink michael v o 3 old new (Some (Remove key)) w → Decided (Remove key) v w
removal_decided v w o key old new told = record {
  updates = told.updates;
  behind = told.whole.front;
  front = ap (λ (x : View). x.front) told.view;
  answered = ap (λ (x : View). x.own.answered) told.view;
}

module _ {S R : Type 0} (p : Pass S R) (root : ℕ) (at : Held) (stands : StandsAt p root (At at)) where
  -- it may be marked where its link has no flags
  pub may_mark : (setup : Setup) (key : ℕ) (link new : LinkParts) → rank p (At at) ≡ key + 1 → link.flags ≡ 0 → new ≡ marked_with link → MayMark 0 setup (near_of (view p) (origin_held at)) 3 link new (Some (Remove key))
  may_mark setup key link new rank_is clear mark = (refl, tt, stands.keyed, clear, mark, ap (λ k. Some (Remove k)) (let z : key ≡ rank p (At at) - 1 = omega arith in z))

  -- and its link is noted then
  pub mark_left : (q : Pass S R) (key : ℕ) (link : LinkParts) → IsLink (marked_with link) → ExchangedLink michael (view p) (origin_held at) 3 link (marked_with link) (Some (Remove key)) (view q) → IsMarkNoted q at link
  mark_left q key link is_link told =
      let left : link_at told.body 3 ≡ marked_with link = ap link_in told.word ∙ link_in-packed_link at.target.generation (marked_with link) is_link in
      let settled : list_settled 3 told.body ≡ true = ap (λ (l : LinkParts). eqb (mark_bit l) 1) left in (
        at.target.generation,
        left_notes michael (view p) (view q) at.place at.target link (marked_with link) (Some (Remove key)) told settled 1 stands.keyed.0 stands.keyed.1,
      )
