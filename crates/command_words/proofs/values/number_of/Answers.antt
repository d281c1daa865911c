use Rattle.command_words.specs.Words.{texts_of}
use Rattle.command_words.proofs.Pairs.{number-read}
use Rattle.command_words.proofs.values.number_of.Goals as goal

pub returns-in-Some : goal.returns-in-Some
returns-in-Some c = number-read (texts_of c.args.words.now) c.args.name.now c.requires c.in-Some.word.now c.in-Some.ensures c.args.least c.args.most c.number_named.result c.number_named.ensures
