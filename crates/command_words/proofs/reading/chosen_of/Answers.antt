use Rattle.command_words.specs.Words.{texts_of}
use Rattle.command_words.proofs.Commands.{unshared, unmade}
use Rattle.command_words.proofs.reading.chosen_of.Goals as goal

pub returns-in_err-shared_of-in-Generate : goal.returns-in_err-shared_of-in-Generate
returns-in_err-shared_of-in-Generate c =
    rw (c.from_residual-in_err-shared_of-in-Generate.ensures, c.in-Generate.is) (unshared (texts_of c.args.words.now) c.in_err-shared_of-in-Generate.ensures)

pub returns-in_err-workload_of-in-Generate : goal.returns-in_err-workload_of-in-Generate
returns-in_err-workload_of-in-Generate c =
    rw (c.from_residual-in_err-workload_of-in-Generate.ensures, c.in-Generate.is)
    (unmade (texts_of c.args.words.now) c.requires c.in_ok-shared_of-in-Generate.field-0 c.in_ok-shared_of-in-Generate.ensures c.in_err-workload_of-in-Generate.ensures)
