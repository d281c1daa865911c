use Rattle.std.proofs.Common.{refl, ap}
use Rattle.record_memory.specs.declared.books.View.{View}
use Rattle.record_table.specs.Handles.{view}
use Rattle.record_pieces.proofs.Hands.{hand_mine, does_still}
use Rattle.manager.proofs.types.Guard.place.Goals as goal

pub returns-clause-did : goal.returns-clause-did
returns-clause-did g c = let s = c.place.ensures.placed in let v : View = view c.args.self.now.caller.now.pass in let w : View = view c.place.new.caller.pass in
    does_still refl refl refl (hand_mine v.own w.own (ap (λ (x : View). x.own.mine) s.1)) (ap (λ (x : View). x.own.moves.retired) s.1) ((s.0, ap (λ (x : View). x.own.steps) s.1), ap (λ (x : View). x.own.answered) s.1, c.place.ensures.stock)

pub returns-clause-locks : goal.returns-clause-locks
returns-clause-locks g c = ap (λ (x : View). x.own.locks) c.place.ensures.placed.1
