use Rattle.std.proofs.Common.{arith, ap, ◌∙◌, Some, ◌++◌}
use Rattle.std.proofs.lemmas.List.{reverse-reverse}
use Rattle.std.proofs.lemmas.List.Elements.{All-pop, All-same, All-push, All-nil}
use mathlib.Core.List.{reverse}
use Rattle.record_table.proofs.Closings.{All-reverse}
use Rattle.manager.specs.Callers.{IsResting}
use Rattle.manager.specs.Made.{passes_of}
use Rattle.manager.proofs.Seats.{IsNew, all_new, seat_more}
use Rattle.manager.proofs.making.seat_all.Goals as goal

pub loop-pass-preserved : goal.loop-pass-preserved
loop-pass-preserved g c = let t = c.args.table.now in let xs = c.loop-pass.passes.items in let ys = c.pop.new.self.items in let p = All-pop (IsNew t g.R.Cover.facts.first) xs ys (Some c.in-Some.pass) c.in-Some.ensures.items c.loop-pass.invariant.rest in record {
  rest = p.0;
  made = All-same (IsResting g.R.Scheme.is_local) _ _ c.in_ok-push.ensures.items (All-push (IsResting g.R.Scheme.is_local) c.loop-pass.callers.items c.seat.result c.loop-pass.invariant.made c.seat.ensures.caller);
  all = seat_more _ xs ys c.loop-pass.callers.items _ c.in-Some.pass c.seat.result c.in-Some.ensures.items c.in_ok-push.ensures.items c.seat.ensures.pass c.loop-pass.invariant.all;
}

pub loop-pass-init : goal.loop-pass-init
loop-pass-init g c = let t = c.args.table.now in let none = c.in_ok-callers.ensures.items in record {
  rest = All-same (IsNew t g.R.Cover.facts.first) _ _ c.reverse.ensures.items (All-reverse (IsNew t g.R.Cover.facts.first) c.args.passes.items (all_new t g.R.Cover.facts.first 0 c.args.passes.items (let all = c.requires.fresh.all in omega arith) c.requires.fresh.each));
  made = All-same (IsResting g.R.Scheme.is_local) _ _ none (All-nil (IsResting g.R.Scheme.is_local));
  all = ap (λ l. passes_of l ++ reverse c.reverse.new.self.items) none ∙ ap (λ l. reverse l) c.reverse.ensures.items ∙ reverse-reverse c.args.passes.items;
}

pub seat-requires-clause-fresh : goal.seat-requires-clause-fresh
seat-requires-clause-fresh g c = (All-pop (IsNew c.args.table.now g.R.Cover.facts.first) c.loop-pass.passes.items c.pop.new.self.items (Some c.in-Some.pass) c.in-Some.ensures.items c.loop-pass.invariant.rest).1.1

pub seat-requires-clause-outside : goal.seat-requires-clause-outside
seat-requires-clause-outside g c = (All-pop (IsNew c.args.table.now g.R.Cover.facts.first) c.loop-pass.passes.items c.pop.new.self.items (Some c.in-Some.pass) c.in-Some.ensures.items c.loop-pass.invariant.rest).1.0
