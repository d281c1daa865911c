use Rattle.std.proofs.Common.{codes}
use Rattle.set_model.specs.declared.names.AllocatorName.TheVariants.{Bump}
use Rattle.command_words.specs.Words.{allocator_word, texts_of}
use Rattle.command_words.proofs.Pairs.{GivesOr-read}
use Rattle.command_words.proofs.values.allocator_of.Goals as goal

pub returns-in-Some : goal.returns-in-Some
returns-in-Some c = GivesOr-read (texts_of c.args.words.now) (codes "--allocator") allocator_word c.requires c.in-Some.word.now c.in-Some.ensures Bump c.allocator_named.result c.allocator_named.ensures
