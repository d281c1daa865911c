use Rattle.std.proofs.Common.{◌≡◌, ℕ, ◌+◌, ◌++◌, ◌∷◌, List, take, ap, ◌∙◌, arith}
use Rattle.std.proofs.lemmas.List.{take_all}
use Rattle.set_model.specs.declared.calls.Call.{Call}
use Rattle.text_lines.specs.Lines.{line, numbered}
use Rattle.std.proofs.Common.{codes}
use Rattle.workload_text.specs.Limits.{phase_lines}
use Rattle.workload_text.specs.Text.{caller_line, phases_lines, spelled_lines}
use Rattle.workload_text.proofs.WritingLemmas.{count_at, first_written, next_written}
use Rattle.workload_text.proofs.writing.write_caller.Goals as goal

pub loop-phase-init : goal.loop-phase-init
loop-phase-init c = λ phases e.
    first_written c.args.out.now.items c.write_numbered.new.out.items c.write_calls.new.out.items c.args.caller phases c.calls_in.result.now (c.calls_in.ensures.calls phases e)
    (c.in_ok-write_numbered.ensures ∙ ap (λ (n : ℕ). c.args.out.now.items ++ line (numbered (codes "caller") n)) c.from.ensures) c.in_ok-write_calls.ensures

pub loop-phase-preserved : goal.loop-phase-preserved
loop-phase-preserved c = λ phases e.
    let count = count_at (phase_lines c.args.workload.now.lists) c.args.workload.now.lists c.args.caller phases c.phases-phase-end.ensures.limits.same_phases e in
    next_written c.args.out.now.items c.loop-phase.out.items c.extend_from_slice.new.self.items c.write_calls-in-loop-phase.new.out.items c.args.caller (c.loop-phase.phase + 1) phases c.calls_in-in-loop-phase.result.now (omega arith)
    (c.calls_in-in-loop-phase.ensures.calls phases e) (c.loop-phase.invariant phases e) c.in_ok-extend_from_slice.ensures.items c.in_ok-write_calls-2.ensures (omega (arith, count, c.phases-phase-end.ensures.count, c.loop-phase-test.true))

pub returns : goal.returns
returns c = λ phases e.
    let count = count_at (phase_lines c.args.workload.now.lists) c.args.workload.now.lists c.args.caller phases c.phases-phase-end.ensures.limits.same_phases e in
    let all : take (c.loop-phase.phase + 1) phases ≡ phases = take_all (c.loop-phase.phase + 1) phases (omega (arith, count, c.phases-phase-end.ensures.count, c.loop-phase-test.false)) in
    c.loop-phase.invariant phases e ∙ ap (λ (ps : List (List Call)). c.args.out.now.items ++ spelled_lines (caller_line c.args.caller ∷ phases_lines ps)) all
