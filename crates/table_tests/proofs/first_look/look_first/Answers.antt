use Rattle.std.proofs.Common.{ap, sym, ◌∙◌, ◌≡◌, refl}
use Rattle.row_words.specs.Refs.{LinkParts}
use Rattle.record_table.specs.Handles.{setup_of, view}
use Rattle.record_memory.specs.declared.books.Setup.{Setup}
use Rattle.record_table.proofs.Started.{started_now}
use Rattle.table_tests.proofs.Seeing.{none_there}
use Rattle.table_tests.proofs.first_look.look_first.Goals as goal

pub returns-clause-started : goal.returns-clause-started
returns-clause-started c = let l = c.load_link.ensures in started_now c.args.pass.now c.load_link.new.pass _ _ _ 3 _ refl c.requires.begun (ap (λ x. x.value.me.0) l.pass.since) l.step.2

pub returns-clause-place : goal.returns-clause-place
returns-clause-place c clear empty k = let l = c.load_link.ensures in
    none_there (view c.args.pass.now) (view c.load_link.new.pass) _ l.step.0 k l.step.2 (ap (λ (z : Setup). z.roots) c.requires.pass.setup ∙ c.requires.roots)
    (ap (λ (x : LinkParts). x.flags) (sym l.step.1) ∙ clear) (ap (λ (x : LinkParts). x.target) (sym l.step.1) ∙ empty)
