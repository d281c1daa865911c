use Rattle.set_model.proofs.HistoryLaws.{legal_takes_turns, contains-keys_of, legal_is_balanced}
use Rattle.set_model.proofs.runs.updates_take_turns.Goals as goal

pub returns-clause-turns : goal.returns-clause-turns
returns-clause-turns c = legal_takes_turns

pub returns-clause-present : goal.returns-clause-present
returns-clause-present c = contains-keys_of

pub returns-clause-balance : goal.returns-clause-balance
returns-clause-balance c = legal_is_balanced
