-- What the loads of a record's key and of its link show of it.
use Rattle.std.proofs.Common.{◌≡◌, ℕ, ◌+◌, ◌%◌, ◌<◌, Bool, true, Some, sym, refl, ap, ◌∙◌, subst, arith}
use Rattle.std.proofs.lemmas.Bool.{eq-eqb}
use Rattle.set_model.specs.Keys.{contains}
use Rattle.set_model.specs.Histories.{keys_of}
use Rattle.row_words.specs.Refs.{LinkParts}
use Rattle.row_words.specs.Packing.{link_in, packed_link, IsLink}
use Rattle.row_words.proofs.Packed.{link_in-packed_link}
use Rattle.record_rule.specs.Facts.{At as Stands, CoverFacts, mark_bit, HasMark, link_at, key_at}
use Rattle.record_rule.specs.Links.{from_place, note_in, LoadedLink}
use Rattle.list_facts.specs.Michael.{michael}
use Rattle.list_facts.specs.Steps.{list_settled, marked_with}
use Rattle.list_facts.proofs.Nodes.{noted_key}
use Rattle.record_table.specs.declared.passes.Pass.{Pass}
use Rattle.record_table.specs.declared.nodes.Held.{Held}
use Rattle.record_table.specs.declared.nodes.Node.TheVariants.{At}
use Rattle.record_table.specs.Handles.{view}
use Rattle.record_table.specs.Nodes.{HasStarted}
use Rattle.reclaim_api.specs.Holds.{KeepsHeld}
use Rattle.reclaim_api.proofs.Noting.{load_notes}
use Rattle.set_calls.specs.Knowing.{of_michael, HasSeenKey}
use Rattle.set_calls.proofs.Seen.{seen_by_load}
use Rattle.michael_list.specs.Walks.{unmarked}
use Rattle.manager.specs.Callers.{AnswersNone}
use Rattle.list_calls.specs.Standing.{rank, StandsAt}

module _ {S R : Type 0} (c : CoverFacts) (p q : Pass S R) (root : ℕ) (at : Held) (first : Bool) (n : ℕ) (stands : StandsAt p root (At at)) (told : LoadedLink michael c (view p) (from_place at.place at.target) 3 first n (view q)) where
  abbrev link : LinkParts
  link = link_in n

  is_link : link_at told.saw.body 3 ≡ link
  is_link = ap link_in told.saw.word

  few : link.flags < 2
  few = subst (λ (l : LinkParts). l.flags < 2) is_link told.saw.shown.flagged

  -- it has no flag but the mark
  pub flag_is : mark_bit link ≡ 1 → link.flags ≡ 1
  flag_is e = let f = few in omega arith

  pub no_flag : ¬ HasMark link → link.flags ≡ 0
  no_flag clear = by link.flags few clear
    where
      by : (f : ℕ) → f < 2 → (f % 2 ≡ 1 → ⊥) → f ≡ 0
      by f less none = omega arith

  pub in_range : IsLink link
  in_range = subst IsLink (sym (ap link_in told.link.packed ∙ link_in-packed_link told.link.own told.link.link told.link.in_range)) told.link.in_range

  -- where it has the mark, it is known from then on
  pub mark_noted : mark_bit link ≡ 1 → (generation : ℕ) × Stands (note_in (view q).own.notes at.place).words 0 (Some (packed_link generation (marked_with (unmarked link))))
  mark_noted mark =
      let is : link ≡ told.link.link = ap link_in told.link.packed ∙ link_in-packed_link told.link.own told.link.link told.link.in_range in
      let word : n ≡ packed_link told.link.own (marked_with (unmarked link)) = told.link.packed ∙ ap (packed_link told.link.own) (sym is ∙ ap (λ f. record link { flags = f }) (flag_is mark)) in
      let settled : list_settled 3 told.saw.body ≡ true = eq-eqb (mark_bit (link_at told.saw.body 3)) 1 (ap mark_bit is_link ∙ mark) in (
        told.link.own,
        subst (λ k. Stands (note_in (view q).own.notes at.place).words 0 (Some k)) word
            (load_notes michael c (view p) (view q) at.place at.target first n told settled 1 stands.keyed.0 stands.keyed.1),
      )

  -- where it has none, the record's key was in the set
  pub present_there : (key : ℕ) → ¬ HasMark link → (view q).setup ≡ (view p).setup → AnswersNone (view p) (view q) → KeepsHeld p q → HasStarted p → rank p (At at) ≡ key + 1 → HasSeenKey q key true (view q).own.updates_seen
  present_there key clear setup none keeps started rank_is = seen_by_load p q setup none key true michael of_michael (from_place at.place at.target) c first n told keeps started
      (ap (λ k. contains (keys_of (view q).seen_updates) k) same_key ∙ told.saw.shown.present (λ e. clear (sym (ap mark_bit is_link) ∙ e)) refl)
    where
      same_key : key ≡ key_at told.saw.body
      same_key = let k = noted_key michael (note_in (view p).own.notes at.place) told.saw.body told.saw.fits stands.keyed in omega arith
