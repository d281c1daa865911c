use Rattle.std.proofs.Common.{◌≡◌, ◌+◌, ◌*◌, ◌<◌, ℕ, true, false, sym, ap, ◌∙◌, arith}
use Rattle.record_memory.specs.declared.books.Setup.{Setup}
use Rattle.record_memory.specs.declared.books.View.{View}
use Rattle.record_memory.specs.declared.steps.Word.TheVariants.{Announced}
use Rattle.record_memory.specs.Memory.{word_at}
use Rattle.record_table.specs.Handles.{view, setup_of}
use Rattle.reclaim_api.proofs.Words.{announced_at}
use Rattle.reclaim_debra.specs.declared.bags.Bags.{Bags}
use Rattle.reclaim_debra.proofs.Loads.{looked_none, looked_bags, looked_rest, looked_one}
use Rattle.reclaim_debra.proofs.entering.look.Goals as goal

pub returns-then-bags-callers-clause-looked : goal.returns-then-bags-callers-clause-looked
returns-then-bags-callers-clause-looked g c = looked_none _ c.args.bags.now (view c.args.pass.now) c.args.bags.now.reading c.requires.bags (let e = c.callers-callers.ensures.callers in let h = c.if-bags-callers.true in omega arith)

-- the word that was loaded
named : (v : View) (k : Setup) (l : Bags) (word callers : ℕ) → v.setup ≡ k → callers ≡ k.callers → l.place < callers → word ≡ 20 + (4 * l.place + 0) → word_at v.setup.callers word ≡ Announced (4 * l.place)
named v k l word callers same is lt at = announced_at v.setup.callers word (4 * l.place) (omega arith) (let e = ap (λ (x : Setup). x.callers) same in omega arith)

pub returns-then-not-lets_advance-clause-bags : goal.returns-then-not-lets_advance-clause-bags
returns-then-not-lets_advance-clause-bags g c = looked_bags c.args.bags.now (view c.args.pass.now) c.requires.bags c.announcement.result c.load_control-found.result (view c.load_control-found.new.pass)
    (named (view c.args.pass.now) (setup_of c.args.table.now) c.args.bags.now c.announcement.result c.callers-callers.result c.requires.pass.setup c.callers-callers.ensures.callers c.if-bags-callers.false c.announcement.ensures)
    c.load_control-found.ensures.step false (sym c.lets_advance.ensures ∙ c.if-not-lets_advance.true)

pub returns-then-not-lets_advance-clause-rest : goal.returns-then-not-lets_advance-clause-rest
returns-then-not-lets_advance-clause-rest g c = looked_rest c.args.bags.now (view c.args.pass.now) c.requires.bags c.announcement.result c.load_control-found.result (view c.load_control-found.new.pass)
    (named (view c.args.pass.now) (setup_of c.args.table.now) c.args.bags.now c.announcement.result c.callers-callers.result c.requires.pass.setup c.callers-callers.ensures.callers c.if-bags-callers.false c.announcement.ensures)
    c.load_control-found.ensures.step false (sym c.lets_advance.ensures ∙ c.if-not-lets_advance.true)

pub returns-then-not-lets_advance-clause-looked : goal.returns-then-not-lets_advance-clause-looked
returns-then-not-lets_advance-clause-looked g c = looked_one c.args.bags.now (view c.args.pass.now) c.requires.bags c.announcement.result c.load_control-found.result (view c.load_control-found.new.pass)
    (named (view c.args.pass.now) (setup_of c.args.table.now) c.args.bags.now c.announcement.result c.callers-callers.result c.requires.pass.setup c.callers-callers.ensures.callers c.if-bags-callers.false c.announcement.ensures)
    c.load_control-found.ensures.step (setup_of c.args.table.now) (let e = c.callers-callers.ensures.callers in let h = c.if-bags-callers.false in omega arith) false (sym c.lets_advance.ensures ∙ c.if-not-lets_advance.true)

pub returns-clause-bags : goal.returns-clause-bags
returns-clause-bags g c = looked_bags c.args.bags.now (view c.args.pass.now) c.requires.bags c.announcement.result c.load_control-found.result (view c.load_control-found.new.pass)
    (named (view c.args.pass.now) (setup_of c.args.table.now) c.args.bags.now c.announcement.result c.callers-callers.result c.requires.pass.setup c.callers-callers.ensures.callers c.if-bags-callers.false c.announcement.ensures)
    c.load_control-found.ensures.step true (sym c.lets_advance.ensures ∙ c.if-not-lets_advance.false)

pub returns-clause-rest : goal.returns-clause-rest
returns-clause-rest g c = looked_rest c.args.bags.now (view c.args.pass.now) c.requires.bags c.announcement.result c.load_control-found.result (view c.load_control-found.new.pass)
    (named (view c.args.pass.now) (setup_of c.args.table.now) c.args.bags.now c.announcement.result c.callers-callers.result c.requires.pass.setup c.callers-callers.ensures.callers c.if-bags-callers.false c.announcement.ensures)
    c.load_control-found.ensures.step true (sym c.lets_advance.ensures ∙ c.if-not-lets_advance.false)

pub returns-clause-looked : goal.returns-clause-looked
returns-clause-looked g c = looked_one c.args.bags.now (view c.args.pass.now) c.requires.bags c.announcement.result c.load_control-found.result (view c.load_control-found.new.pass)
    (named (view c.args.pass.now) (setup_of c.args.table.now) c.args.bags.now c.announcement.result c.callers-callers.result c.requires.pass.setup c.callers-callers.ensures.callers c.if-bags-callers.false c.announcement.ensures)
    c.load_control-found.ensures.step (setup_of c.args.table.now) (let e = c.callers-callers.ensures.callers in let h = c.if-bags-callers.false in omega arith) true (sym c.lets_advance.ensures ∙ c.if-not-lets_advance.false)
