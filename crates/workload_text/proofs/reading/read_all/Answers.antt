use Rattle.std.proofs.Common.{◌≡◌, ℕ, ◌⊎◌, ◌++◌, List, Result, Ok, Err, IfOk, IfErr, arith, inr, ap, subst, ◌∙◌}
use Rattle.workload_text.specs.declared.error.WorkloadError.{WorkloadError}
use Rattle.workload_text.specs.declared.error.WorkloadError.TheVariants.{OutOfMemory}
use Rattle.workload_text.specs.Limits.{Plan}
use Rattle.workload_text.specs.Refusals.{IsRefused}
use Rattle.std.proofs.lemmas.Result.{err_from_is_err_and}
use Rattle.text_lines.specs.Lines.{line}
use Rattle.workload_text.specs.declared.turns.Turn.{Turn}
use Rattle.workload_text.specs.declared.turns.Turn.TheVariants.{End}
use Rattle.workload_text.specs.declared.progress.Progress.{Progress}
use Rattle.workload_text.specs.Text.{spelled, IsTextOf}
use Rattle.workload_text.specs.Following.{in_caller, MayFollow}
use Rattle.workload_text.specs.Turns.{line_of}
use Rattle.workload_text.specs.Progress.{IsProgress, IsEnded}
use Rattle.workload_text.proofs.Steps.{sound_progress}
use Rattle.workload_text.proofs.Ends.{refused_progress, room_for_phase}
use Rattle.workload_text.proofs.reading.read_all.Goals as goal

pub loop-read-init : goal.loop-read-init
loop-read-init c = c.start-progress.ensures.progress c.args.bytes.now c.in_ok-seen.rest.now c.in_ok-seen.ensures.head

pub read_calls-requires-clause-calls : goal.read_calls-requires-clause-calls
read_calls-requires-clause-calls c = (sound_progress c.args.bytes.now c.loop-read.rest.now c.loop-read.progress c.loop-read.invariant).calls

pub read_calls-requires-clause-lines : goal.read_calls-requires-clause-lines
read_calls-requires-clause-lines c =
    let sound = sound_progress c.args.bytes.now c.loop-read.rest.now c.loop-read.progress c.loop-read.invariant in
    omega (arith, sound.few_lines, sound.calls, sound.caller, sound.few_callers, sound.phases)

pub overflow_add-read : goal.overflow_add-read
overflow_add-read c =
    let now = c.in_ok-read.ensures.progress c.args.bytes.now c.loop-read.invariant in
    let sound = sound_progress c.args.bytes.now c.in_ok-read.behind.now c.in_ok-read.read now in
    omega (arith, sound.few_lines, sound.calls, sound.caller, sound.few_callers, sound.phases)

pub returns-in_err-turn-clause-refused : goal.returns-in_err-turn-clause-refused
returns-in_err-turn-clause-refused c =
    let p = err_from_is_err_and c.from_residual-in_err-turn.result c.from_residual-in_err-turn.ensures.1 in
    let now = c.in_ok-read.ensures.progress c.args.bytes.now c.loop-read.invariant in
    rw (p.1, p.2) (inr (refused_progress c.args.bytes.now c.in_ok-read.behind.now c.in_ok-read.read c.in_err-turn.field-0.0 now c.in_err-turn.ensures.refused))

pub next_phase-requires-clause-few : goal.next_phase-requires-clause-few
next_phase-requires-clause-few c =
    let now = c.in_ok-read.ensures.progress c.args.bytes.now c.loop-read.invariant in
    let sound = sound_progress c.args.bytes.now c.in_ok-read.behind.now c.in_ok-read.read now in
    omega (arith, now.calls, sound.calls)

pub next_phase-requires-clause-room : goal.next_phase-requires-clause-room
next_phase-requires-clause-room c =
    let now = c.in_ok-read.ensures.progress c.args.bytes.now c.loop-read.invariant in
    let sound = sound_progress c.args.bytes.now c.in_ok-read.behind.now c.in_ok-read.read now in
    let may = subst (λ (t : Turn). MayFollow (in_caller c.in_ok-read.read.seen) (line_of c.in_ok-read.read.seen t)) c.in-Phase.is c.in_ok-turn.ensures.may in
    (omega (arith, sound.few_lines, sound.calls, sound.caller, sound.few_callers, sound.phases), room_for_phase c.in_ok-read.read.seen c.in_ok-read.read.lines sound may.1, sound.first_phases)

pub next_caller-requires : goal.next_caller-requires
next_caller-requires c =
    let now = c.in_ok-read.ensures.progress c.args.bytes.now c.loop-read.invariant in
    let sound = sound_progress c.args.bytes.now c.in_ok-read.behind.now c.in_ok-read.read now in
    record { room = (omega (arith, sound.few_lines, sound.calls, sound.caller, sound.few_callers, sound.phases), omega (arith, sound.caller, sound.few_callers)) }

pub end_at-requires-clause-lines : goal.end_at-requires-clause-lines
end_at-requires-clause-lines c =
    let now = c.in_ok-read.ensures.progress c.args.bytes.now c.loop-read.invariant in
    let sound = sound_progress c.args.bytes.now c.in_ok-read.behind.now c.in_ok-read.read now in
    omega (arith, sound.few_lines, sound.calls, sound.caller, sound.few_callers, sound.phases)

ended : (bytes behind after : List ℕ) (read : Progress) (turn : Turn) → IsProgress bytes read behind → turn ≡ End → MayFollow (in_caller read.seen) (line_of read.seen turn) → behind ≡ line (spelled (line_of read.seen turn)) ++ after → IsEnded bytes read after
ended bytes behind after read turn h is may same =
    let there = subst (λ (t : Turn). MayFollow (in_caller read.seen) (line_of read.seen t)) is may in
    let text = same ∙ ap (λ (t : Turn). line (spelled (line_of read.seen t)) ++ after) is in
    record { progress_is = subst (IsProgress bytes read) text h; may = there }

pub end_at-requires-clause-ended : goal.end_at-requires-clause-ended
end_at-requires-clause-ended c =
    let now = c.in_ok-read.ensures.progress c.args.bytes.now c.loop-read.invariant in
    (c.args.bytes.now, ended c.args.bytes.now c.in_ok-read.behind.now c.in_ok-turn.after.now c.in_ok-read.read c.in_ok-turn.turn now c.in-End.is c.in_ok-turn.ensures.may c.in_ok-turn.ensures.same)

found_at : (r : Result Plan WorkloadError) (bytes rest : List ℕ) (p : Progress) → IsEnded bytes p rest → IfOk r (λ workload. (b : List ℕ) → IsEnded b p rest → IsTextOf b workload) → IfOk r (λ workload. IsTextOf bytes workload)
found_at (Ok x) bytes rest p h f = f bytes h
found_at (Err e) bytes rest p h f = tt

refused_at : (r : Result Plan WorkloadError) (bytes rest : List ℕ) (p : Progress) → IsEnded bytes p rest → IfErr r (λ e. (b : List ℕ) → IsEnded b p rest → (e ≡ OutOfMemory) ⊎ IsRefused b e) → IfErr r (λ e. (e ≡ OutOfMemory) ⊎ IsRefused bytes e)
refused_at (Ok x) bytes rest p h f = tt
refused_at (Err e) bytes rest p h f = f bytes h

pub returns-in-End-clause-found : goal.returns-in-End-clause-found
returns-in-End-clause-found c =
    let now = c.in_ok-read.ensures.progress c.args.bytes.now c.loop-read.invariant in
    let end = ended c.args.bytes.now c.in_ok-read.behind.now c.in_ok-turn.after.now c.in_ok-read.read c.in_ok-turn.turn now c.in-End.is c.in_ok-turn.ensures.may c.in_ok-turn.ensures.same in
    found_at c.end_at.result c.args.bytes.now c.in_ok-turn.after.now c.in_ok-read.read end c.end_at.ensures.found

pub returns-in-End-clause-refused : goal.returns-in-End-clause-refused
returns-in-End-clause-refused c =
    let now = c.in_ok-read.ensures.progress c.args.bytes.now c.loop-read.invariant in
    let end = ended c.args.bytes.now c.in_ok-read.behind.now c.in_ok-turn.after.now c.in_ok-read.read c.in_ok-turn.turn now c.in-End.is c.in_ok-turn.ensures.may c.in_ok-turn.ensures.same in
    refused_at c.end_at.result c.args.bytes.now c.in_ok-turn.after.now c.in_ok-read.read end c.end_at.ensures.refused

pub loop-read-preserved-in_ok-progress-in-Phase : goal.loop-read-preserved-in_ok-progress-in-Phase
loop-read-preserved-in_ok-progress-in-Phase c =
    let now = c.in_ok-read.ensures.progress c.args.bytes.now c.loop-read.invariant in
    let seen = c.in_ok-read.read.seen in
    let may = subst (λ (t : Turn). MayFollow (in_caller seen) (line_of seen t)) c.in-Phase.is c.in_ok-turn.ensures.may in
    let text = c.in_ok-turn.ensures.same ∙ ap (λ (t : Turn). line (spelled (line_of seen t)) ++ c.in_ok-turn.after.now) c.in-Phase.is in
    c.in_ok-progress-in-Phase.ensures.progress c.args.bytes.now c.in_ok-read.behind.now c.in_ok-turn.after.now now may text

pub loop-read-preserved : goal.loop-read-preserved
loop-read-preserved c =
    let now = c.in_ok-read.ensures.progress c.args.bytes.now c.loop-read.invariant in
    let seen = c.in_ok-read.read.seen in
    let may = subst (λ (t : Turn). MayFollow (in_caller seen) (line_of seen t)) c.in-Caller.is c.in_ok-turn.ensures.may in
    let text = c.in_ok-turn.ensures.same ∙ ap (λ (t : Turn). line (spelled (line_of seen t)) ++ c.in_ok-turn.after.now) c.in-Caller.is in
    c.in_ok-progress-in-Caller.ensures.progress c.args.bytes.now c.in_ok-read.behind.now c.in_ok-turn.after.now now may text
