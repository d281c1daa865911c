use Rattle.std.proofs.Common.{codes, false}
use Rattle.command_words.specs.Words.{answer_word, texts_of}
use Rattle.command_words.proofs.Pairs.{GivesOr-read}
use Rattle.command_words.proofs.values.shared_of.Goals as goal

pub returns-in-Some : goal.returns-in-Some
returns-in-Some c = GivesOr-read (texts_of c.args.words.now) (codes "--shared") answer_word c.requires c.in-Some.word.now c.in-Some.ensures false c.answer_named.result c.answer_named.ensures
