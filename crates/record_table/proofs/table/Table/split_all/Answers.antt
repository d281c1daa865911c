use Rattle.std.proofs.Common.{arith, refl, subst, sym, ap, ◌<◌, ◌+◌, length}
use Rattle.std.proofs.lemmas.List.{length_push}
use Rattle.record_table.specs.Made.{IsFreshWith, IsFresh, AreFreshFrom}
use Rattle.record_table.proofs.Made.{books_from, more, left_fresh, right_fresh, fresh_more}
use Rattle.record_table.proofs.table.Table.split_all.Goals as goal

pub split_pass-pass-requires-clause-pass : goal.split_pass-pass-requires-clause-pass
split_pass-pass-requires-clause-pass g c = c.loop-caller.invariant.is

pub split_pass-pass-requires-clause-counted : goal.split_pass-pass-requires-clause-counted
split_pass-pass-requires-clause-counted g c = let t = c.args.self.now in let h = c.loop-caller-test.true in let e = ap (λ k. k.callers) t.setup_is in omega arith

pub split_pass-pass-requires-clause-next : goal.split_pass-pass-requires-clause-next
split_pass-pass-requires-clause-next g c = let t = c.args.self.now in let lt : c.loop-caller.caller < t.board.shared.key.callers = (let h = c.loop-caller-test.true in let e = ap (λ k. k.callers) t.setup_is in omega arith) in
    (_, _, more t.board.shared.key g.R.Cover.facts.first c.loop-caller.caller 0 _ c.loop-caller.invariant.rest lt, refl)

pub loop-caller-preserved : goal.loop-caller-preserved
loop-caller-preserved g c = let t = c.args.self.now in let lt : c.loop-caller.caller < t.board.shared.key.callers = (let h = c.loop-caller-test.true in let e = ap (λ k. k.callers) t.setup_is in omega arith) in
    let inv = c.loop-caller.invariant in let did = c.split_pass-pass.ensures in record {
      is = did.pass;
      rest = subst (IsFreshWith t.board.shared.key g.R.Cover.facts.first 0 (books_from t.board.shared.key g.R.Cover.facts.first (c.loop-caller.caller + 1))) (sym did.left) (left_fresh t.board.shared.key g.R.Cover.facts.first c.loop-caller.caller 0 _ inv.rest lt);
      made = subst (AreFreshFrom t g.R.Cover.facts.first 1) (sym c.in_ok-push.ensures.items)
          (fresh_more t g.R.Cover.facts.first 1 c.loop-caller.caller c.loop-caller.passes.items c.split_pass-pass.result inv.made inv.many did.new
          (subst (IsFresh t.board.shared.key g.R.Cover.facts.first c.loop-caller.caller) (sym did.right) (right_fresh t.board.shared.key g.R.Cover.facts.first c.loop-caller.caller 0 _ inv.rest lt)) did.outside);
      many = let e = ap length c.in_ok-push.ensures.items in let l = length_push c.loop-caller.passes.items c.split_pass-pass.result in let m = inv.many in omega arith;
    }
