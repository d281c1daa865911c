use Rattle.std.proofs.Common.{rules}
use Rattle.record_table.specs.Handles.{same_then}
use Rattle.list_tests.proofs.Pairs.{one_of, both_still, same_caller, same_over}
use Rattle.list_tests.proofs.interleaved.insert_around.Goals as goal

pub returns-in_default : goal.returns-in_default
returns-in_default c =
    let p = c.args.zero.now.pass in let q = c.begin-guard.result.caller.now.pass in let r = c.fresh.new.self.caller.now.pass in let s = c.finish.new.self.0 in
    let still = both_still c.args.list.now.manager.table c.args.zero.now c.args.one.now s c.args.one.now c.requires.both
    (same_over p q r s.pass c.begin-guard.ensures.pass.same c.fresh.ensures.pass c.finish.ensures.pass.same) (same_caller c.args.one.now.pass) c.finish.ensures.caller c.requires.both.one_rests in
    record { both = search rules }

pub insert_between-came-requires-clause-of : goal.insert_between-came-requires-clause-of
insert_between-came-requires-clause-of c = one_of c.args.list.now.manager.table c.args.zero.now c.args.one.now c.requires.both

pub returns : goal.returns
returns c =
    let p = c.args.zero.now.pass in let q = c.begin-guard.result.caller.now.pass in let f = c.fresh.new.self.caller.now.pass in let r = c.insert_between-came.new.guard.caller.now.pass in let s = c.finish-2.new.self.0 in
    let between = same_then q f r c.fresh.ensures.pass c.insert_between-came.ensures.same.pass in
    let still = both_still c.args.list.now.manager.table c.args.zero.now c.args.one.now s c.insert_between-came.new.one c.requires.both
    (same_over p q r s.pass c.begin-guard.ensures.pass.same between c.finish-2.ensures.pass.same) c.insert_between-came.ensures.one_same c.finish-2.ensures.caller c.insert_between-came.ensures.one in
    record { both = search rules }
