use Rattle.std.proofs.Common.{◌<◌, ◌+◌, [], ◌∷◌, ap, ◌∙◌, arith}
use Rattle.record_table.specs.declared.nodes.Node.TheVariants.{At}
use Rattle.record_pieces.specs.Events.{keyed}
use Rattle.list_calls.specs.Standing.{rank}
use Rattle.lazy_list.specs.Walks.{passes, finds, misses}
use Rattle.lazy_list.proofs.walking.look.Goals as goal

pub returns-then-found-key-clause-landing : goal.returns-then-found-key-clause-landing
returns-then-found-key-clause-landing g c = let reached = c.read-found.ensures.reached in let rank_is = c.read-found.ensures.key in let less = c.if-found-key.true in
    (record { stands = reached.stands; below = omega arith }, rank_is, (let r = reached.rises in let l = c.read-found.ensures.low in omega arith))

pub returns-then-found-key-clause-did : goal.returns-then-found-key-clause-did
returns-then-found-key-clause-did g c = (keyed c.args.at.target c.read-found.result ∷ [], passes c.read-found.result c.if-found-key.true, c.read-found.ensures.did)

pub returns-then-found-key-2-clause-landing : goal.returns-then-found-key-2-clause-landing
returns-then-found-key-2-clause-landing g c = let reached = c.read-found.ensures.reached in
    ((reached.before_it, reached.else, reached.stands, c.read-found.ensures.key ∙ ap (λ k. k + 1) c.if-found-key-2.true, reached.behind), c.read-found.ensures.low)

pub returns-then-found-key-2-clause-did : goal.returns-then-found-key-2-clause-did
returns-then-found-key-2-clause-did g c = (keyed c.args.at.target c.read-found.result ∷ [], finds c.read-found.result c.if-found-key-2.true, c.read-found.ensures.did)

pub returns-clause-landing : goal.returns-clause-landing
returns-clause-landing g c = let reached = c.read-found.ensures.reached in let rank_is = c.read-found.ensures.key in
    let more : c.args.key + 1 < rank c.read-found.new.guard.caller.now.pass (At c.args.at) = omega arith in
    ((reached.before_it, (reached.stands, more), reached.gap more), c.read-found.ensures.low)

pub returns-clause-did : goal.returns-clause-did
returns-clause-did g c = (keyed c.args.at.target c.read-found.result ∷ [], misses c.read-found.result (omega arith), c.read-found.ensures.did)
