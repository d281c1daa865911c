use Rattle.std.proofs.Common.{arith}
use Rattle.std.specs.Mem.Slots.{slots_items}
use Rattle.record_table.proofs.Copies.{copies_more}
use Rattle.record_table.proofs.table.Table.into_words.Goals as goal

pub loop-i-preserved : goal.loop-i-preserved
loop-i-preserved g c = copies_more c.loop-i.words (slots_items c.close_with-closed.result.words) c.loop-i.i c.word.result (let h = c.loop-i-test.true in let l = c.loop-i.auto.words in omega arith) c.word.ensures c.loop-i.invariant
