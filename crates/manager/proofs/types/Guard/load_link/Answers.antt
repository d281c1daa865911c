use Rattle.std.proofs.Common.{ap, refl}
use Rattle.record_memory.specs.declared.books.View.{View}
use Rattle.record_table.specs.Handles.{view}
use Rattle.record_pieces.proofs.Hands.{hand_mine, does_still}
use Rattle.manager.proofs.types.Guard.load_link.Goals as goal

pub returns-clause-did : goal.returns-clause-did
returns-clause-did g c = let s = c.load_link.ensures.step in let v : View = view c.args.self.now.caller.now.pass in let w : View = view c.load_link.new.caller.pass in
    does_still refl refl refl (hand_mine v.own w.own (ap (λ (x : View). x.own.mine) s.2.view)) (ap (λ (x : View). x.own.moves.retired) s.2.view) ((s.0, s.1, ap (λ (x : View). x.own.steps) s.2.view), refl, c.load_link.ensures.stock)

pub returns-clause-locks : goal.returns-clause-locks
returns-clause-locks g c = ap (λ (x : View). x.own.locks) c.load_link.ensures.step.2.view
