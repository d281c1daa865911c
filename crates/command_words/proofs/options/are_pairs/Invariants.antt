use Rattle.std.proofs.Common.{length}
use Rattle.command_words.specs.Options.{ArePairs}
use Rattle.command_words.specs.Words.{names_of, texts_of}
use Rattle.command_words.proofs.options.are_pairs.Given as goal

abbrev pub invariant-loop-rest : goal.invariant-loop-rest
invariant-loop-rest l = record {
  whole : ArePairs (names_of l.mode) (texts_of l.rest) → ArePairs (names_of l.mode) (texts_of l.words);
  rest : ArePairs (names_of l.mode) (texts_of l.words) → ArePairs (names_of l.mode) (texts_of l.rest);
}

abbrev pub decreases-loop-rest : goal.decreases-loop-rest
decreases-loop-rest l = length l.rest
