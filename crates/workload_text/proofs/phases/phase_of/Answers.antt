use Rattle.std.proofs.Common.{◌≡◌, ℕ, ◌-◌, Some, ap, ◌∙◌, take, drop, arith}
use Rattle.workload_text.proofs.PhaseSlices.{is_phase}
use Rattle.workload_text.proofs.phases.phase_of.Goals as goal

pub slice_bounds-result-count : goal.slice_bounds-result-count
slice_bounds-result-count c = (is_phase 0 _ c.args.cuts.now c.args.calls.now c.args.phase c.start_of-start.result c.end_of-end.result c.requires.cuts (omega arith) c.start_of-start.ensures c.end_of-end.ensures).within

pub slice_bounds-result-start : goal.slice_bounds-result-start
slice_bounds-result-start c =
    let p = is_phase 0 _ c.args.cuts.now c.args.calls.now c.args.phase c.start_of-start.result c.end_of-end.result c.requires.cuts (omega arith) c.start_of-start.ensures c.end_of-end.ensures in
    omega (arith, p.within, p.high)

pub slice_bounds-result-end : goal.slice_bounds-result-end
slice_bounds-result-end c =
    let p = is_phase 0 _ c.args.cuts.now c.args.calls.now c.args.phase c.start_of-start.result c.end_of-end.result c.requires.cuts (omega arith) c.start_of-start.ensures c.end_of-end.ensures in
    omega (arith, p.within, p.high)

pub returns : goal.returns
returns c =
    let p = is_phase 0 _ c.args.cuts.now c.args.calls.now c.args.phase c.start_of-start.result c.end_of-end.result c.requires.cuts (omega arith) c.start_of-start.ensures c.end_of-end.ensures in
    let same : c.start_of-start.result - 0 ≡ c.start_of-start.result = omega arith in
    p.same ∙ ap (λ (n : ℕ). Some (take (c.end_of-end.result - c.start_of-start.result) (drop n c.args.calls.now))) same
