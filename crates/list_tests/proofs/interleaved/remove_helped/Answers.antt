use Rattle.std.proofs.Common.{rules}
use Rattle.list_tests.proofs.Pairs.{both_still, same_over}
use Rattle.list_tests.proofs.interleaved.remove_helped.Goals as goal

pub returns : goal.returns
returns c =
    let p = c.args.zero.now.pass in let q = c.begin-guard.result.caller.now.pass in let r = c.mark_between-came.new.guard.caller.now.pass in let s = c.finish-2.new.self.0 in
    let p' = c.args.one.now.pass in let q' = c.begin-other.result.caller.now.pass in let r' = c.mark_between-came.new.other.caller.now.pass in let s' = c.finish.new.self.0 in let between = c.mark_between-came.ensures in
    let still = both_still c.args.list.now.manager.table c.args.zero.now c.args.one.now s s' c.requires.both
    (same_over p q r s.pass c.begin-guard.ensures.pass.same between.same.pass c.finish-2.ensures.pass.same) (same_over p' q' r' s'.pass c.begin-other.ensures.pass.same between.other_same.pass c.finish.ensures.pass.same)
    c.finish-2.ensures.caller c.finish.ensures.caller in
    record { both = search rules }
