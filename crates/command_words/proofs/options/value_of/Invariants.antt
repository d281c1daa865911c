use Rattle.std.proofs.Common.{ℕ, List, length}
use Rattle.command_words.specs.Options.{Gives}
use Rattle.command_words.specs.Words.{texts_of}
use Rattle.command_words.proofs.options.value_of.Given as goal

abbrev pub invariant-loop-rest : goal.invariant-loop-rest
invariant-loop-rest l = record {
  here : (value : List ℕ) → Gives (texts_of l.rest) l.name value → Gives (texts_of l.words) l.name value;
  nowhere_else : (value : List ℕ) → Gives (texts_of l.words) l.name value → Gives (texts_of l.rest) l.name value;
}

abbrev pub decreases-loop-rest : goal.decreases-loop-rest
decreases-loop-rest l = length l.rest
