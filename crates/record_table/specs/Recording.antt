-- What a step adds to the list of its caller's steps.
use Rattle.std.specs.Prelude.{◌≡◌, ℕ, [], ◌∷◌, ◌++◌}
use Rattle.record_memory.specs.declared.steps.Word.{Word}
use Rattle.record_memory.specs.declared.steps.Step.{Step}
use Rattle.record_memory.specs.declared.steps.StepKind.{StepKind}
use Rattle.record_memory.specs.declared.books.View.{View}
use Rattle.record_rule.specs.Kinds.{idle}
use Rattle.record_table.specs.Handles.{IsSameView}

-- one further step of the same caller, of this kind, on this word, which found and left these
pub record Adds (kind : StepKind) (word : Word) (found left : ℕ) (old new : View) : Type 0 where
  pub same : IsSameView old new
  pub step : Step
  pub one : new.own.steps ≡ old.own.steps ++ step ∷ []
  pub kind_is : step.kind ≡ kind
  pub word_is : step.word ≡ word
  pub found_is : step.found ≡ found
  pub left_is : step.left ≡ left
  pub idle_is : step.idle ≡ idle old.own

-- whatever the step finds, what it tells has it recorded so, and that the word is then f of what was found
abbrev pub Records : StepKind → Word → (ℕ → ℕ) → (View → ℕ → View → Type 0) → View → Type 0
Records kind word f tells v = (n : ℕ) (w : View) → tells v n w → Adds kind word n (f n) v w
