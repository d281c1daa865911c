use Rattle.std.proofs.Common.{sym, subst, arith, Some, All}
use Rattle.record_memory.specs.declared.books.View.{View}
use Rattle.record_rule.specs.World.{StartsWith}
use Rattle.record_table.specs.Handles.{view}
use Rattle.std.proofs.lemmas.List.Elements.{All-pop, All-same}
use Rattle.record_table.specs.Closing.{IsWholePassOf}
use Rattle.record_table.proofs.Closings.{All-reverse, first_all, more_all, last_all, first_heard, more_heard, all_heard}
use Rattle.record_table.proofs.table.Table.close.Goals as goal

pub loop-pass-init : goal.loop-pass-init
loop-pass-init g c = let t = c.args.self in let all = All-same (IsWholePassOf t) _ _ c.reverse.ensures.items (All-reverse (IsWholePassOf t) c.args.passes.items c.requires.each) in
    let p = All-pop (IsWholePassOf t) c.reverse.new.self.items c.pop.new.self.items (Some c.in-Some.last) c.in-Some.ensures.items all in record {
      is = p.1.pass;
      rest = p.0;
      heard = first_heard t c.args.passes.items c.reverse.new.self.items c.pop.new.self.items c.in-Some.last c.reverse.ensures.items c.in-Some.ensures.items;
      all = first_all t c.args.passes.items c.reverse.new.self.items c.pop.new.self.items c.in-Some.last c.reverse.ensures.items c.in-Some.ensures.items p.1;
    }

pub absorb-requires-clause-from : goal.absorb-requires-clause-from
absorb-requires-clause-from g c = (All-pop (IsWholePassOf c.args.self) c.loop-pass.passes.items c.pop-in-loop-pass.new.self.items (Some c.in-Some-pop.pass) c.in-Some-pop.ensures.items c.loop-pass.invariant.rest).1.pass

pub loop-pass-preserved : goal.loop-pass-preserved
loop-pass-preserved g c = let t = c.args.self in let p = All-pop (IsWholePassOf t) c.loop-pass.passes.items c.pop-in-loop-pass.new.self.items (Some c.in-Some-pop.pass) c.in-Some-pop.ensures.items c.loop-pass.invariant.rest in record {
  is = c.absorb.ensures.pass;
  rest = p.0;
  heard = more_heard t c.args.passes.items _ _ c.loop-pass.passes.items c.pop-in-loop-pass.new.self.items c.in-Some-pop.pass c.absorb.ensures.joined c.in-Some-pop.ensures.items c.loop-pass.invariant.heard;
  all = more_all t _ _ _ c.loop-pass.passes.items c.pop-in-loop-pass.new.self.items c.in-Some-pop.pass c.loop-pass.invariant.is.present c.absorb.ensures.joined c.in-Some-pop.ensures.items p.1 c.loop-pass.invariant.all;
}

pub close_last-requires-clause-all : goal.close_last-requires-clause-all
close_last-requires-clause-all g c = last_all c.args.self _ c.args.passes.items c.loop-pass.passes.items _ (let e = c.in_default-pop.ensures.cases.0 in let l = c.loop-pass.passes.ok.0 in omega arith) c.loop-pass.invariant.all c.requires.order

pub returns-clause-fronts : goal.returns-clause-fronts
returns-clause-fronts g c = subst (λ (v : View). All (λ p. StartsWith v.front (view p).front) c.args.passes.items) (sym c.close_last.ensures.view)
    (all_heard c.args.self c.args.passes.items c.loop-pass.passes.items _ (let e = c.in_default-pop.ensures.cases.0 in let l = c.loop-pass.passes.ok.0 in omega arith) c.close_last.ensures.one c.loop-pass.invariant.heard)
