use Rattle.std.proofs.Common.{rules, ◌≡◌, Some, ap, sym, subst, ◌∙◌, refl}
use Rattle.row_words.specs.Refs.{LinkParts}
use Rattle.row_words.specs.Packing.{packed_link, IsLink}
use Rattle.row_words.specs.contracts.links.Link.{the_view as the_link}
use Rattle.record_rule.specs.Facts.{At}
use Rattle.record_rule.specs.Links.{note_in}
use Rattle.list_facts.specs.Steps.{marked_with}
use Rattle.record_table.specs.Handles.{view}
use Rattle.table_tests.specs.First.{HoldsFound}
use Rattle.table_tests.proofs.Holding.{after_exchange, after_mark, may_mark}
use Rattle.table_tests.proofs.lists.mark_first.Goals as goal

pub read_held-key-requires-clause-held : goal.read_held-key-requires-clause-held
read_held-key-requires-clause-held c = subst (HoldsFound c.reach_first.new.pass) c.in_ok-target.was c.reach_first.ensures.held

pub exchange_link-requires-clause-node : goal.exchange_link-requires-clause-node
exchange_link-requires-clause-node c = c.read_held-key.ensures.held.holds

pub exchange_link-requires-clause-allowed : goal.exchange_link-requires-clause-allowed
exchange_link-requires-clause-allowed c = may_mark (view c.read_held-key.new.pass) _ c.in_ok-target.target c.read_held-key.result.1 _ c.read_held-key.ensures.key (ap (λ (l : LinkParts). l.flags) (sym c.link.view_is) ∙ c.if-link-ne0.false) c.marked-marked.ensures.link

pub returns-clause-held : goal.returns-clause-held
returns-clause-held c = (
  after_exchange c.read_held-key.new.pass c.exchange_link.new.pass c.in_ok-target.target c.exchange_link.ensures.pass c.read_held-key.ensures.held _ _ _ c.in-Ok.ensures.step,
  (
    c.in_ok-target.target.generation,
    subst (λ (l : LinkParts). At (note_in (view c.exchange_link.new.pass).own.notes 0).words 0 (Some (packed_link c.in_ok-target.target.generation l))) c.marked-marked.ensures.link
        (after_mark c.read_held-key.new.pass c.exchange_link.new.pass c.in_ok-target.target c.exchange_link.ensures.pass c.read_held-key.ensures.held _ _ _ c.in-Ok.ensures.step c.marked-marked.ensures.in_range (ap (λ (l : LinkParts). l.flags) c.marked-marked.ensures.link)),
  ),
)
