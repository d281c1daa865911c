use Rattle.std.proofs.Common.{codes}
use Rattle.text_lines.specs.Names.{reclaimer_word}
use Rattle.command_words.specs.Words.{texts_of}
use Rattle.command_words.proofs.Pairs.{Gives-read}
use Rattle.command_words.proofs.values.reclaimer_of.Goals as goal

pub returns-in-Some : goal.returns-in-Some
returns-in-Some c = Gives-read (texts_of c.args.words.now) (codes "--reclaimer") reclaimer_word c.requires c.in-Some.word.now c.in-Some.ensures c.reclaimer_named.result c.reclaimer_named.ensures
