-- Entering only adds steps.
use Rattle.std.proofs.Common.{◌≡◌, List, ◌∷◌, ◌++◌, append_assoc, ◌∙◌}
use Rattle.record_memory.specs.declared.steps.Step.{Step}
use Rattle.record_memory.specs.declared.books.Setup.{Setup}
use Rattle.record_memory.specs.declared.books.Book.{Book}
use Rattle.row_words.specs.declared.links.Freed.{Freed}
use Rattle.reclaim_api.specs.Frames.{AddsSteps}
use Rattle.reclaim_api.specs.StepForms.{epoch_load}
use Rattle.reclaim_debra.specs.Running.{Enters}

five : (a b c d e : List Step) → a ++ b ++ c ++ d ++ e ≡ a ++ (b ++ (c ++ (d ++ e)))
five a b c d e = simp append_assoc

pub enters_more : (k : Setup) (b : Book) (f : Freed) (c : Book) → Enters k b f c → AddsSteps b c
enters_more k b f c h = (_, h.steps ∙ five b.steps (epoch_load b h.epoch ∷ h.moved) h.looked h.tried _)
