use Rattle.std.proofs.Common.{[], ◌∷◌}
use Rattle.record_table.specs.declared.nodes.Node.TheVariants.{Root}
use Rattle.record_table.specs.Handles.{view}
use Rattle.reclaim_api.specs.declared.holding.Holding.TheVariants.{Null, Held as Holds, Marked, Moved}
use Rattle.record_pieces.specs.Events.{Event, hopped}
use Rattle.set_calls.proofs.Going.{did_one, did_then}
use Rattle.one_key_set.specs.Pieces.{misses, reaches, meets_mark, moves}
use Rattle.one_key_set.proofs.Looks.{absent_there, holds_there}
use Rattle.one_key_set.proofs.looking.look.Goals as goal

pub look_at-requires-clause-at : goal.look_at-requires-clause-at
look_at-requires-clause-at g c = let h = c.in-Held.ensures in let r = h.reached in holds_there c.args.guard.now.caller.now.pass c.hold.new.self.caller.now.pass c.args.key r.2.0 h.pass.setup h.answers r.2.1 r.2.3 c.in-Held.at r.0 r.1 r.2.2

pub returns-in-Null-clause-seen : goal.returns-in-Null-clause-seen
returns-in-Null-clause-seen g c = let h = c.in-Null.ensures in let r = h.reached in absent_there c.args.guard.now.caller.now.pass c.hold.new.self.caller.now.pass c.args.key r.0 h.pass.setup h.answers r.1 r.3 r.2

pub returns-in-Null-clause-did : goal.returns-in-Null-clause-did
returns-in-Null-clause-did g c = let f = c.args.guard.now in let h = c.hold.new.self in let seen = (view h.caller.now.pass).own.updates_seen in let e : Event = hopped 0 (Root c.args.key) 3 Null seen in
    (e ∷ [], misses seen, did_one f h e c.in-Null.ensures.did)

pub returns-in-Held-clause-did : goal.returns-in-Held-clause-did
returns-in-Held-clause-did g c = let f = c.args.guard.now in let h = c.hold.new.self in let seen = (view h.caller.now.pass).own.updates_seen in let at = c.in-Held.at in let did = c.look_at.ensures.did in
    let e : Event = hopped 0 (Root c.args.key) 3 (Holds at) seen in
    (e ∷ did.0, reaches at seen did.1, did_then f h c.look_at.new.guard (e ∷ []) did.0 c.in-Held.ensures.same_reference.1 (did_one f h e c.in-Held.ensures.did) did.2)

pub returns-in-Marked-clause-did : goal.returns-in-Marked-clause-did
returns-in-Marked-clause-did g c = let f = c.args.guard.now in let h = c.hold.new.self in let seen = (view h.caller.now.pass).own.updates_seen in let link = c.in-Marked.field-0 in let e : Event = hopped 0 (Root c.args.key) 3 (Marked link) seen in
    (e ∷ [], meets_mark link seen, did_one f h e c.in-Marked.ensures.did)

pub returns-in-Moved-clause-did : goal.returns-in-Moved-clause-did
returns-in-Moved-clause-did g c = let f = c.args.guard.now in let h = c.hold.new.self in let seen = (view h.caller.now.pass).own.updates_seen in let found = c.in-Moved.found in let e : Event = hopped 0 (Root c.args.key) 3 (Moved found) seen in
    (e ∷ [], moves found seen, did_one f h e c.in-Moved.ensures.did)
