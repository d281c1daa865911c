use Rattle.std.proofs.Common.{ap, arith}
use Rattle.record_memory.specs.declared.books.View.{View}
use Rattle.table_tests.proofs.Ends.{ends_met}
use Rattle.table_tests.proofs.meetings.meet_ends.Goals as goal

pub returns : goal.returns
returns g c = let cut = c.split_at_mut-front.ensures in let met = c.meet.ensures in record {
  all = ends_met c.args.table.now _ c.args.passes.now _ _ c.index-front-0.result c.index-back-0.result _ _ c.requires.all cut.value cut.front cut.back
      (let two = c.requires.two in let n = cut.front_len in omega arith) (let two = c.requires.two in let n = cut.back_len in omega arith)
      (met.from, ap (λ (v : View). v.others) met.unchanged) (met.into, ap (λ (v : View). v.others) met.rest);
}
