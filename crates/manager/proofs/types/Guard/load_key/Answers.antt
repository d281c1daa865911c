use Rattle.std.proofs.Common.{refl, ap}
use Rattle.record_memory.specs.declared.books.View.{View}
use Rattle.record_table.specs.Handles.{view}
use Rattle.record_pieces.proofs.Hands.{hand_mine, does_still}
use Rattle.manager.proofs.types.Guard.load_key.Goals as goal

pub returns-clause-did : goal.returns-clause-did
returns-clause-did g c = let s = c.load_key.ensures.step in does_still refl refl refl (hand_mine (view c.args.self.now.caller.now.pass).own (view c.load_key.new.caller.pass).own (ap (λ (x : View). x.own.mine) s.2.view)) (ap (λ (x : View). x.own.moves.retired) s.2.view) ((s.0, s.1, ap (λ (x : View). x.own.steps) s.2.view), c.load_key.ensures.stock)

pub returns-clause-locks : goal.returns-clause-locks
returns-clause-locks g c = ap (λ (x : View). x.own.locks) c.load_key.ensures.step.2.view
