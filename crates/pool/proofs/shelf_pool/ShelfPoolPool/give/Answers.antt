use Rattle.std.proofs.Common.{◌≡◌, ℕ, ◌∙◌, subst, arith}
use Rattle.record_table.specs.Handles.{view, same_start, same_then}
use Rattle.reclaim_api.specs.Chained.{refs_in}
use Rattle.pool.proofs.Passing.{Passed, passed_none}
use Rattle.pool.proofs.ShelfCalls.{IsSome, passes_taken, gave_chain, kept_chain, still_has}
use Rattle.pool.proofs.shelf_pool.ShelfPoolPool.give.Goals as goal

pub loop-shelf-init : goal.loop-shelf-init
loop-shelf-init g c = record { of = c.requires.pass; same = same_start c.args.pass.now; passed = passed_none IsSome (view c.args.pass.now) }

pub give_shelf-requires-clause-chain : goal.give_shelf-requires-clause-chain
give_shelf-requires-clause-chain g c = (refs_in (view c.args.pass.now) c.args.chain, still_has (view c.args.pass.now) (view c.loop-shelf.pass) c.loop-shelf.shelf c.args.chain c.in-Some.head c.loop-shelf.invariant.passed c.in-Some.is c.requires.full)

pub returns-in-Ok-clause-gives : goal.returns-in-Ok-clause-gives
returns-in-Ok-clause-gives g c = let t = c.in-Ok.ensures.step in
    gave_chain c.loop-shelf.shelf (view c.args.pass.now) (view c.loop-shelf.pass) (view c.give_shelf.new.pass) c.in-Some.head c.args.chain t.0 c.loop-shelf-test.true c.loop-shelf.invariant.passed c.in-Some.is c.requires.full t.1 t.2

pub loop-shelf-preserved : goal.loop-shelf-preserved
loop-shelf-preserved g c = let e = c.give_shelf.ensures.pass in let i = c.loop-shelf.invariant in let t = c.in_default-give_shelf.ensures.step in record {
  of = record { table = e.table ∙ i.of.table; setup = e.setup ∙ i.of.setup; present = e.present ∙ i.of.present };
  same = same_then c.args.pass.now c.loop-shelf.pass c.give_shelf.new.pass i.same e;
  passed = passes_taken c.loop-shelf.shelf (view c.args.pass.now) (view c.loop-shelf.pass) (view c.give_shelf.new.pass) c.in_default-give_shelf.field-0 i.passed t.0 t.1;
}

pub returns-clause-gives : goal.returns-clause-gives
returns-clause-gives g c = kept_chain (view c.args.pass.now) (view c.loop-shelf.pass) c.args.chain
    (let e : c.loop-shelf.shelf ≡ 16 = omega (arith, c.loop-shelf-test.false, c.loop-shelf.auto.shelf-end) in subst (λ (k : ℕ). Passed IsSome k k 0 (view c.args.pass.now) (view c.loop-shelf.pass)) e c.loop-shelf.invariant.passed)
