use Rattle.std.proofs.Common.{◌≡◌, [], sym, subst, arith, ap, ◌∙◌, Some, All}
use Rattle.std.proofs.lemmas.List.{length-map}
use Rattle.std.proofs.lemmas.List.Elements.{All-pop, All-same}
use mathlib.Core.List.{reverse}
use Rattle.record_memory.specs.declared.books.Book.{Book}
use Rattle.record_memory.specs.declared.books.View.{View}
use Rattle.record_rule.specs.World.{StartsWith, carries}
use Rattle.record_table.specs.Handles.{view}
use Rattle.record_table.specs.Closing.{IsWholePassOf}
use Rattle.record_table.proofs.Closings.{All-reverse, first_all, more_all, last_all, first_heard, more_heard, all_heard}
use Rattle.manager.specs.Made.{pass_of, passes_of}
use Rattle.manager.proofs.Seats.{passes_reversed, popped_passes, no_callers, all_absorbed}
use Rattle.manager.proofs.KeepLocks.{none_locked}
use Rattle.manager.proofs.Sums.{moves_add_up}
use Rattle.manager.proofs.types.Manager.close.Goals as goal

pub unreachable-requires : goal.unreachable-requires
unreachable-requires g c = no_callers c.args.callers.items (let e = c.in_default.ensures.cases.0 in let l = c.args.callers.ok.0 in let r = c.reverse.ensures.len in omega arith) _ c.args.self.table.numbers.some_caller c.requires.order

pub loop-caller-init : goal.loop-caller-init
loop-caller-init g c = let t = c.args.self.table in let first = c.in-Some.first in let xs = c.reverse.new.self.items in let ys = c.pop.new.self.items in let ps = passes_of c.args.callers.items in
    let turned : passes_of xs ≡ reverse ps = ap (λ l. passes_of l) c.reverse.ensures.items ∙ passes_reversed c.args.callers.items in let next = popped_passes xs ys first c.in-Some.ensures.items in
    let p = All-pop (IsWholePassOf t) (passes_of xs) (passes_of ys) (Some first.pass) next (All-same (IsWholePassOf t) (passes_of xs) (reverse ps) turned (All-reverse (IsWholePassOf t) ps c.requires.each)) in record {
      is = p.1.pass;
      rest = p.0;
      heard = first_heard t ps (passes_of xs) (passes_of ys) first.pass turned next;
      all = first_all t ps (passes_of xs) (passes_of ys) first.pass turned next p.1;
    }

pub absorb-requires-clause-from : goal.absorb-requires-clause-from
absorb-requires-clause-from g c = let xs = c.loop-caller.callers.items in let ys = c.pop-in-loop-caller.new.self.items in let caller = c.in-Some-pop.caller in
    (All-pop (IsWholePassOf c.args.self.table) (passes_of xs) (passes_of ys) (Some caller.pass) (popped_passes xs ys caller c.in-Some-pop.ensures.items) c.loop-caller.invariant.rest).1.pass

pub loop-caller-preserved : goal.loop-caller-preserved
loop-caller-preserved g c = let t = c.args.self.table in let xs = c.loop-caller.callers.items in let ys = c.pop-in-loop-caller.new.self.items in let caller = c.in-Some-pop.caller in
    let next = popped_passes xs ys caller c.in-Some-pop.ensures.items in let p = All-pop (IsWholePassOf t) (passes_of xs) (passes_of ys) (Some caller.pass) next c.loop-caller.invariant.rest in record {
      is = c.absorb.ensures.pass;
      rest = p.0;
      heard = more_heard t (passes_of c.args.callers.items) _ _ (passes_of xs) (passes_of ys) caller.pass c.absorb.ensures.joined next c.loop-caller.invariant.heard;
      all = more_all t _ _ _ (passes_of xs) (passes_of ys) caller.pass c.loop-caller.invariant.is.present c.absorb.ensures.joined next p.1 c.loop-caller.invariant.all;
    }

pub close_last-requires-clause-all : goal.close_last-requires-clause-all
close_last-requires-clause-all g c = last_all c.args.self.table _ (passes_of c.args.callers.items) (passes_of c.loop-caller.callers.items) _
    (let e = c.in_default-pop.ensures.cases.0 in let l = c.loop-caller.callers.ok.0 in let m = length-map c.loop-caller.callers.items pass_of in omega arith) c.loop-caller.invariant.all c.requires.order

pub returns-clause-fronts : goal.returns-clause-fronts
returns-clause-fronts g c = subst (λ (v : View). All (λ p. StartsWith v.front (view p).front) (passes_of c.args.callers.items)) (sym c.close_last.ensures.view)
    (all_heard c.args.self.table (passes_of c.args.callers.items) (passes_of c.loop-caller.callers.items) _
    (let e = c.in_default-pop.ensures.cases.0 in let l = c.loop-caller.callers.ok.0 in let m = length-map c.loop-caller.callers.items pass_of in omega arith) c.close_last.ensures.one c.loop-caller.invariant.heard)

pub returns-clause-moves : goal.returns-clause-moves
returns-clause-moves g c = let f = c.close_last.ensures.fits in record { records = f.records; placed = f.placed; sums = moves_add_up _ f.records _ _ f.placed f.moved }

pub returns-clause-unlocked : goal.returns-clause-unlocked
returns-clause-unlocked g c rest = All-same (λ (b : Book). b.locks ≡ []) _ _ (ap carries c.close_last.ensures.view ∙ all_absorbed _ (passes_of c.loop-caller.callers.items) _
    (let e = c.in_default-pop.ensures.cases.0 in let l = c.loop-caller.callers.ok.0 in let m = length-map c.loop-caller.callers.items pass_of in omega arith) c.loop-caller.invariant.all) (none_locked g.R.Scheme.is_local c.args.callers.items rest)
