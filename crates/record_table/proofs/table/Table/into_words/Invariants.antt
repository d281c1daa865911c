use Rattle.std.proofs.Common.{◌≡◌, take}
use Rattle.std.specs.Mem.Slots.{slots_items}
use Rattle.record_table.proofs.table.Table.into_words.Given as goal

-- the first words are copied
abbrev pub invariant-loop-i : goal.invariant-loop-i
invariant-loop-i g l = take l.i l.words ≡ take l.i (slots_items l.closed.words)
