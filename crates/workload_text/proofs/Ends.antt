-- What stands behind the line `end` is refused.
use Rattle.std.proofs.Common.{◌≡◌, ◌≢◌, ℕ, ◌+◌, ◌<◌, ◌⊎◌, inl, inr, List, [], ◌∷◌, ◌++◌, length, refl, sym, subst, arith}
use Rattle.text_lines.specs.Lines.{line, HasNoFeed}
use Rattle.workload_text.specs.declared.error.WorkloadError.TheVariants.{BadLine}
use Rattle.workload_text.specs.declared.error.WorkloadError.{WorkloadError}
use Rattle.workload_text.specs.declared.seen.Seen.{Seen}
use Rattle.workload_text.specs.declared.progress.Progress.{Progress}
use Rattle.workload_text.specs.Text.{workload_lines}
use Rattle.workload_text.specs.Following.{Place, at_start, in_caller, behind_end, place_after_all, HasPhaseLeft}
use Rattle.workload_text.specs.Refusals.{Refuses, IsRefused}
use Rattle.workload_text.specs.Progress.{opened_lines, IsProgress, IsEnded}
use Rattle.workload_text.proofs.LineFacts.{line_or_rest}
use Rattle.workload_text.proofs.Outcome.{end_is_last}
use Rattle.workload_text.proofs.Sound.{IsSeenSound}
use Rattle.workload_text.proofs.Steps.{opened_plan, ended_lines, ended_length}

refuses_end : (number : ℕ) (rest : List ℕ) → rest ≢ [] → ((text : List ℕ) × (more : List ℕ) × HasNoFeed text × (rest ≡ line text ++ more)) ⊎ HasNoFeed rest → Refuses behind_end number rest (BadLine number)
refuses_end number rest some (inl l) = inl (record { text = l.0; more = l.1; same = l.3; feedless = l.2; none_follows = λ next m e. end_is_last next m; kind = refl })
refuses_end number rest some (inr feedless) = inr (inl (record { ended = refl; some = some; feedless = feedless; kind = refl }))

pub ended_refused : (bytes rest : List ℕ) (p : Progress) → IsEnded bytes p rest → rest ≢ [] → IsRefused bytes (BadLine (p.lines + 2))
ended_refused bytes rest p h some =
    let ends = ended_lines bytes rest p h in
    let lines = workload_lines (opened_plan p) in
    let number : p.lines + 2 ≡ length lines + 1 = omega (arith, ended_length bytes rest p h) in
    let there = refuses_end (length lines + 1) rest some (line_or_rest rest) in
    record {
      lines = lines;
      rest = rest;
      follow = ends.follow;
      same = ends.same;
      refused = subst (λ (n : ℕ). Refuses (place_after_all at_start lines) (length lines + 1) rest (BadLine n)) (sym number) (subst (λ (at : Place). Refuses at (length lines + 1) rest (BadLine (length lines + 1))) (sym ends.at) there);
    }

pub empty_of_length : (xs : List ℕ) → length xs ≡ 0 → xs ≡ []
empty_of_length [] h = refl
empty_of_length (x ∷ xs) h = absurd (omega arith)

-- what can't come next is refused
pub refused_progress : (bytes rest : List ℕ) (p : Progress) (e : WorkloadError) → IsProgress bytes p rest → Refuses (in_caller p.seen) (p.lines + 1) rest e → IsRefused bytes e
refused_progress bytes rest p e h r = record {
  lines = opened_lines p;
  rest = rest;
  follow = h.follow;
  same = h.same;
  refused = subst (λ (at : Place). Refuses at (length (opened_lines p) + 1) rest e) (sym h.place) (subst (λ (n : ℕ). Refuses (in_caller p.seen) (n + 1) rest e) h.count r);
}

pub room_for_phase : (seen : Seen) (lines : ℕ) → IsSeenSound seen lines → HasPhaseLeft seen → seen.phases < 1000
room_for_phase seen lines h (inl p) = p.1
room_for_phase seen lines h (inr p) = omega (arith, p.1, h.first_phases)
