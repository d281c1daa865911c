-- Three stores in the own words, one after another.
use Rattle.std.proofs.Common.{◌≡◌, ℕ, List, [], ◌∷◌, ◌++◌, append_assoc, ap, ◌∙◌}
use Rattle.record_memory.specs.declared.steps.Step.{Step}
use Rattle.record_memory.specs.declared.books.View.{View}
use Rattle.record_rule.specs.Kinds.{idle}
use Rattle.reclaim_api.specs.StepForms.{word_store}
use Rattle.reclaim_hazard.specs.Steps.{stored_own}

pub three : (a b c d : List Step) → ((a ++ b) ++ c) ++ d ≡ a ++ (b ++ (c ++ d))
three a b c d = simp append_assoc

module _ (v a b c : View) (first second third : ℕ) (one : a ≡ stored_own v 0 0 first) (two : b ≡ stored_own a 1 0 second) (last : c ≡ stored_own b 2 0 third) where
  cleared : c ≡ stored_own (stored_own (stored_own v 0 0 first) 1 0 second) 2 0 third
  cleared = last ∙ ap (λ (x : View). stored_own x 2 0 third) (two ∙ ap (λ (x : View). stored_own x 1 0 second) one)

  pub cleared_steps : c.own.steps ≡ v.own.steps ++ word_store v.own 0 0 first ∷ word_store v.own 1 0 second ∷ word_store v.own 2 0 third ∷ []
  unfolding idle
  cleared_steps = ap (λ (x : View). x.own.steps) cleared ∙ three v.own.steps (word_store v.own 0 0 first ∷ []) (word_store v.own 1 0 second ∷ []) (word_store v.own 2 0 third ∷ [])
