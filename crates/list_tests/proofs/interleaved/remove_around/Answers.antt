use Rattle.std.proofs.Common.{rules}
use Rattle.list_tests.proofs.Pairs.{both_still, same_over}
use Rattle.list_tests.proofs.interleaved.remove_around.Goals as goal

pub returns : goal.returns
returns c =
    let p = c.args.zero.now.pass in let q = c.begin-guard.result.caller.now.pass in let r = c.remove_between-came.new.guard.caller.now.pass in let s = c.finish.new.self.0 in let between = c.remove_between-came.ensures in
    let still = both_still c.args.list.now.manager.table c.args.zero.now c.args.one.now s c.remove_between-came.new.one c.requires.both
    (same_over p q r s.pass c.begin-guard.ensures.pass.same between.same.pass c.finish.ensures.pass.same) between.one_same c.finish.ensures.caller between.one in
    record { both = search rules }
