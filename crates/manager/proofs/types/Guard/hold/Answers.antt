use Rattle.std.proofs.Common.{refl, ap}
use Rattle.record_memory.specs.declared.books.Moves.{Moves}
use Rattle.record_pieces.proofs.Hands.{hand_left, does_still}
use Rattle.manager.proofs.Stocks.{stock_left}
use Rattle.manager.proofs.types.Guard.hold.Goals as goal

pub returns-clause-did : goal.returns-clause-did
returns-clause-did g c = let e = c.reach.ensures in does_still refl refl refl (hand_left _ _ e.rest) (ap (λ (m : Moves). m.retired) e.rest.moves) (e.does, refl, stock_left _ _ e.rest)

pub returns-clause-locks : goal.returns-clause-locks
returns-clause-locks g c = c.reach.ensures.rest.locks
