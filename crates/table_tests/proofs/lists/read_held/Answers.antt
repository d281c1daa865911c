use Rattle.std.proofs.Common.{ap, subst, sym, ◌∙◌}
use Rattle.row_words.specs.Refs.{LinkParts}
use Rattle.record_table.specs.Handles.{view}
use Rattle.table_tests.specs.First.{HasKey, HasMark}
use Rattle.table_tests.proofs.Holding.{after_key, after_link, key_loaded, key_after_link, mark_loaded}
use Rattle.table_tests.proofs.lists.read_held.Goals as goal

pub load_key-key-requires-clause-held : goal.load_key-key-requires-clause-held
load_key-key-requires-clause-held c = c.requires.held.holds

pub load_link-link-requires-clause-node : goal.load_link-link-requires-clause-node
load_link-link-requires-clause-node c = let k = c.load_key-key.ensures in (after_key c.args.pass.now c.load_key-key.new.pass c.args.target k.pass c.requires.held k.step.0 k.step.2).holds

pub returns-clause-held : goal.returns-clause-held
returns-clause-held c = let k = c.load_key-key.ensures in let l = c.load_link-link.ensures in
    after_link c.load_key-key.new.pass c.load_link-link.new.pass c.args.target l.pass (after_key c.args.pass.now c.load_key-key.new.pass c.args.target k.pass c.requires.held k.step.0 k.step.2) l.step.0 l.step.2

pub returns-clause-key : goal.returns-clause-key
returns-clause-key c = let k = c.load_key-key.ensures in let l = c.load_link-link.ensures in
    subst (HasKey (view c.load_link-link.new.pass)) (sym k.step.1) (key_after_link c.load_key-key.new.pass c.load_link-link.new.pass c.args.target l.pass (after_key c.args.pass.now c.load_key-key.new.pass c.args.target k.pass c.requires.held k.step.0 k.step.2) l.step.0 _ l.step.2
    (key_loaded c.args.pass.now c.load_key-key.new.pass c.args.target k.pass c.requires.held k.step.0 k.step.2))

pub returns-clause-mark : goal.returns-clause-mark
returns-clause-mark c mark = let k = c.load_key-key.ensures in let l = c.load_link-link.ensures in
    subst (HasMark (view c.load_link-link.new.pass)) (sym l.step.1)
    (mark_loaded c.load_key-key.new.pass c.load_link-link.new.pass c.args.target l.pass (after_key c.args.pass.now c.load_key-key.new.pass c.args.target k.pass c.requires.held k.step.0 k.step.2) l.step.0 l.step.2 (ap (λ (x : LinkParts). x.flags) (sym l.step.1) ∙ mark))
