use Rattle.std.proofs.Common.{◌+◌, ◌*◌, get_or, ◌∙◌}
use Rattle.record_table.specs.Closing.{closed_words, closed_setup}
use Rattle.key_sums.proofs.ClosedRows.{row_word_lies}
use Rattle.key_sums.proofs.closing_walk.word_in.Goals as goal

pub returns : goal.returns
returns c = record {
  word =
      (λ k. get_or (c.words.ensures k) (20 + 5 * c.callers.ensures k + 8 * c.args.row + c.args.field) 0)
      ∙ row_word_lies (closed_setup c.args.closed.now) (closed_words c.args.closed.now) c.args.row c.args.field c.requires.row c.requires.field;
}
