-- Bytes are the text of one workload, or refused in one way.
use Rattle.std.proofs.Common.{◌≡◌, ℕ, List, [], ◌++◌, Some, None, refl, sym, ◌∙◌}
use Rattle.std.proofs.lemmas.List.{append-nil}
use Rattle.workload_text.specs.declared.error.WorkloadError.{WorkloadError}
use Rattle.workload_text.specs.Limits.{Plan, IsWorkload}
use Rattle.workload_text.specs.Text.{workload_lines, text_of, spelled_lines, IsTextOf}
use Rattle.workload_text.specs.Refusals.{IsRefused}
use Rattle.workload_text.proofs.Admitted.{workload_follows}
use Rattle.workload_text.proofs.Outcome.{same_from_start}
use Rattle.workload_text.proofs.Parsed.{lines_tell_plan, have_some}
use Rattle.workload_text.specs.Limits.{phase_lines}

text_end : (plan : Plan) → spelled_lines (workload_lines plan) ++ [] ≡ text_of plan
text_end plan = append-nil (text_of plan)

-- a text is that of one workload
pub one_workload : (a b : Plan) → IsWorkload a → IsWorkload b → text_of a ≡ text_of b → a ≡ b
one_workload a b ha hb e =
    let fa = workload_follows a ha in
    let fb = workload_follows b hb in
    let lines = same_from_start (workload_lines a) (workload_lines b) [] [] None None fa.0 fb.0 (text_end a ∙ e ∙ sym (text_end b)) (fa.1, refl) (fb.1, refl) in
    lines_tell_plan a b (have_some (phase_lines a.lists) a.lists ha.same_phases) (have_some (phase_lines b.lists) b.lists hb.same_phases) lines.0

some_or_none : (e : WorkloadError) → None ≡ Some e → ⊥
some_or_none e h = cc

-- and is not refused
pub text_or_refusal : (bytes : List ℕ) (plan : Plan) (e : WorkloadError) → IsTextOf bytes plan → IsRefused bytes e → ⊥
text_or_refusal bytes plan e text r =
    let f = workload_follows plan text.0 in
    some_or_none e (same_from_start (workload_lines plan) r.lines [] r.rest None (Some e) f.0 r.follow (text_end plan ∙ sym text.1 ∙ r.same) (f.1, refl) r.refused).1

same_some : (e f : WorkloadError) → Some e ≡ Some f → e ≡ f
same_some e f h = cc

-- what is refused is refused in one way
pub one_cause : (bytes : List ℕ) (e f : WorkloadError) → IsRefused bytes e → IsRefused bytes f → e ≡ f
one_cause bytes e f a b = same_some e f (same_from_start a.lines b.lines a.rest b.rest (Some e) (Some f) a.follow b.follow (sym a.same ∙ b.same) a.refused b.refused).1
