use Rattle.std.proofs.Common.{◌≡◌, ℕ, ◌*◌, ap, ◌∙◌, subst, arith}
use Rattle.record_memory.specs.declared.steps.StepKind.TheVariants.{Load}
use Rattle.record_rule.specs.Kinds.{made_step}
use Rattle.record_rule.specs.Shelving.{shelf_step}
use Rattle.record_table.specs.Handles.{view, same_start, same_then}
use Rattle.reclaim_api.proofs.Rows.{pass_still}
use Rattle.pool.proofs.Passing.{Passed, passed_none}
use Rattle.pool.proofs.ShelfCalls.{IsZero, loads_shelf, passes_empty, found_chain, passes_emptied, took_chain, took_none}
use Rattle.pool.proofs.shelf_pool.ShelfPoolPool.take.Goals as goal

pub loop-shelf-init : goal.loop-shelf-init
loop-shelf-init g c = record { of = c.requires.pass; same = same_start c.args.pass.now; passed = passed_none IsZero (view c.args.pass.now) }

pub loop-shelf-preserved-then-load_control-eq0 : goal.loop-shelf-preserved-then-load_control-eq0
loop-shelf-preserved-then-load_control-eq0 g c =
    let e = c.load_control.ensures.pass in let i = c.loop-shelf.invariant in let v = view c.args.pass.now in let w = view c.loop-shelf.pass in let x = view c.load_control.new.pass in let k = c.loop-shelf.shelf in
    let is = loads_shelf g.R.Cover.facts w x k c.shelf.result c.load_control.result c.loop-shelf-test.true c.shelf.ensures c.load_control.ensures.step in record {
      of = pass_still c.args.table.now c.loop-shelf.pass c.load_control.new.pass i.of e;
      same = same_then c.args.pass.now c.loop-shelf.pass c.load_control.new.pass i.same e;
      passed = passes_empty k v w x i.passed (is ∙ ap (λ (n : ℕ). made_step w (shelf_step w Load k n n)) c.if-load_control-eq0.true);
    }

pub returns-in-Some-clause-takes : goal.returns-in-Some-clause-takes
returns-in-Some-clause-takes g c =
    let v = view c.args.pass.now in let w = view c.loop-shelf.pass in let k = c.loop-shelf.shelf in let x = view c.load_control.new.pass in
    let is = loads_shelf g.R.Cover.facts w x k c.shelf.result c.load_control.result c.loop-shelf-test.true c.shelf.ensures c.load_control.ensures.step in
    took_chain k v x (view c.take_shelf.new.pass) c.in-Some.head c.loop-shelf-test.true (found_chain k v w x c.load_control.result c.loop-shelf.invariant.passed c.if-load_control-eq0.false is) c.in-Some.ensures.step

pub loop-shelf-preserved : goal.loop-shelf-preserved
loop-shelf-preserved g c =
    let l = c.load_control.ensures in let e = c.take_shelf.ensures.pass in let i = c.loop-shelf.invariant in let v = view c.args.pass.now in let w = view c.loop-shelf.pass in let x = view c.load_control.new.pass in let k = c.loop-shelf.shelf in
    let is = loads_shelf g.R.Cover.facts w x k c.shelf.result c.load_control.result c.loop-shelf-test.true c.shelf.ensures l.step in record {
      of = pass_still c.args.table.now c.load_control.new.pass c.take_shelf.new.pass (pass_still c.args.table.now c.loop-shelf.pass c.load_control.new.pass i.of l.pass) e;
      same = same_then c.args.pass.now c.load_control.new.pass c.take_shelf.new.pass (same_then c.args.pass.now c.loop-shelf.pass c.load_control.new.pass i.same l.pass) e;
      passed = passes_emptied k v x (view c.take_shelf.new.pass) (found_chain k v w x c.load_control.result i.passed c.if-load_control-eq0.false is) c.in_default.ensures.step;
    }

pub returns-clause-takes : goal.returns-clause-takes
returns-clause-takes g c = took_none (view c.args.pass.now) (view c.loop-shelf.pass)
    (let e : c.loop-shelf.shelf ≡ 16 = omega (arith, c.loop-shelf-test.false, c.loop-shelf.auto.shelf-end) in subst (λ (k : ℕ). Passed IsZero k (2 * k) 0 (view c.args.pass.now) (view c.loop-shelf.pass)) e c.loop-shelf.invariant.passed)
