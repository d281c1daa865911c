use Rattle.list_tests.proofs.Pairs.{both_still, same_caller}
use Rattle.list_tests.proofs.interleaved.insert_first.Goals as goal

pub returns : goal.returns
returns c = record {
  both = both_still c.args.list.now.manager.table c.args.zero.now c.args.one.now c.insert.new.caller c.args.one.now c.requires.both c.insert.ensures.same (same_caller c.args.one.now.pass) c.insert.ensures.caller c.requires.both.one_rests;
}
