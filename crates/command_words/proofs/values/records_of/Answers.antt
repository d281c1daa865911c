use Rattle.command_words.specs.Words.{texts_of}
use Rattle.command_words.proofs.Records.{records-refused}
use Rattle.command_words.proofs.values.records_of.Goals as goal

pub returns-in-None-number_named : goal.returns-in-None-number_named
returns-in-None-number_named c =
    records-refused (texts_of c.args.words.now) c.requires c.in-Some.word.now c.in-Some.ensures c.in-None-number_named.ensures
