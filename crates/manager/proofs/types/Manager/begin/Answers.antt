use Rattle.std.proofs.Common.{refl, ap, ◌∙◌}
use Rattle.record_memory.specs.declared.books.Moves.{Moves}
use Rattle.record_pieces.proofs.Hands.{hand_rest, does_still}
use Rattle.manager.proofs.types.Manager.begin.Goals as goal

pub returns-clause-did : goal.returns-clause-did
returns-clause-did g c = let e = c.enter.ensures in does_still refl refl refl (hand_rest _ _ e.rest) (ap (λ (m : Moves). m.retired) e.rest.moves) (e.does, e.stock)

pub returns-clause-locks : goal.returns-clause-locks
returns-clause-locks g c = c.enter.ensures.rest.locks ∙ c.requires.caller.unlocked
