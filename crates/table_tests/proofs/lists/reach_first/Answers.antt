use Rattle.std.proofs.Common.{ap, sym, ◌∙◌}
use Rattle.row_words.specs.Refs.{LinkParts}
use Rattle.table_tests.proofs.Holding.{found_held}
use Rattle.table_tests.proofs.lists.reach_first.Goals as goal

pub returns-clause-held : goal.returns-clause-held
returns-clause-held c = let s = c.reach_link-link.ensures.step in
    found_held c.args.pass.now c.reach_link-link.new.pass s.0 c.link.inside.target c.requires.begun (ap (λ x. x.value.me.0) c.reach_link-link.ensures.pass.since) s.2
    (ap (λ (l : LinkParts). l.flags) (sym (c.link.view_is ∙ s.1)) ∙ c.if-link-ne0.false) (ap (λ (l : LinkParts). l.target) (sym (c.link.view_is ∙ s.1)))
