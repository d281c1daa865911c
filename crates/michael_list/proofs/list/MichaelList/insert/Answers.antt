use Rattle.std.proofs.Common.{◌∙◌, rules}
use Rattle.record_pieces.specs.Manners.{Manner}
use Rattle.record_table.specs.Handles.{setup_of, view}
use Rattle.manager.specs.Manners.{manner}
use Rattle.set_calls.proofs.Going.{whole}
use Rattle.michael_list.proofs.Spares.{guard_gives}
use Rattle.michael_list.proofs.list.MichaelList.insert.Goals as goal

pub returns-clause-did : goal.returns-clause-did
returns-clause-did g c =
    let m : Manner = manner g.R.Scheme.enters g.R.Scheme.leaves g.R.Scheme.bears g.R.Scheme.reaches g.R.Scheme.puts_away g.A.Allocator.draws g.A.Allocator.refuses g.P.Pool.SHELVES g.P.Pool.busy in
    let first = c.begin-guard.result in let last = c.insert-answer.new.guard in let did = c.insert-answer.ensures.did in
    let same = c.begin-guard.ensures.manager in let after = c.insert-answer.ensures.same.manager ∙ same in
    let t = whole m (setup_of c.args.self.now.manager.table) (setup_of first.manager.now.table) (setup_of last.manager.now.table) did.0 (view c.args.caller.now.pass).own (view first.caller.now.pass).own (view last.caller.now.pass).own (view c.finish.new.self.0.pass).own
    (λ k. setup_of (same k).table) (λ k. setup_of (after k).table) c.begin-guard.ensures.did did.2 c.finish.ensures.did in
    let given = guard_gives m (setup_of c.args.self.now.manager.table) c.insert-answer.result did.0 (view c.args.caller.now.pass).own (view c.finish.new.self.0.pass).own did.1 t in
    (did.0, did.1, search rules, search rules)
