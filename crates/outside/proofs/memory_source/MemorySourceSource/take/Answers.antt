use Rattle.std.proofs.Common.{List, ℕ, Contains, ap, refl, subst}
use Rattle.outside.proofs.memory_source.MemorySourceSource.take.Goals as goal

pub returns-then-fails_next-clause-chosen : goal.returns-then-fails_next-clause-chosen
returns-then-fails_next-clause-chosen c =
    let chosen = c.if-fails_next.ensures.listed.0 refl in
    let P : List ℕ → Type 0 = λ failing. Contains failing c.fails_next.new.self.calls in
    (λ _. rw c.fail.ensures.calls (subst P (ap (λ s. s.failing) c.self.view_is) chosen), λ _. refl)
