use Rattle.std.proofs.Common.{◌<◌, ◌++◌, ◌∷◌, [], length, get_or, sym, ◌∙◌, subst, arith}
use Rattle.set_runs.proofs.Progress.{phases_there, calls_few, ready_next, at_next}
use Rattle.set_runs.proofs.phases.play_phases.Goals as goal

pub begin_phase-requires-clause-first : goal.begin_phase-requires-clause-first
begin_phase-requires-clause-first g c = c.loop-phase.invariant.first

pub play_phase-requires-clause-ready : goal.play_phase-requires-clause-ready
play_phase-requires-clause-ready g c κs within = λ k d there.
    let plan = c.args.workload.now in
    let at = c.loop-phase.invariant.at.1 in
    let met = c.begin_phase.ensures.1 in
    let now : k < length c.loop-phase.players = subst (λ n. k < n) met.same_length there in
    let before : k < length c.args.players.now = subst (λ n. k < n) at.same_length now in
    let of : k < length plan.lists = subst (λ n. k < n) c.requires.all before in
    let phase : c.loop-phase.phase < length (get_or plan.lists k []) = phases_there plan k c.loop-phase.phase c.phases-phase-end.ensures.limits of (subst (λ n. c.loop-phase.phase < n) c.loop-phase.invariant.last c.loop-phase-test.true) in
    ready_next g.S.ConcurrentSet.has c.args.set.now plan.lists g.S.ConcurrentSet.view (g.S.ConcurrentSet.steps (g.S.ConcurrentSet.setup c.args.set.now)) c.args.budget c.loop-phase.phase k c.begin_phase.ensures.0 c.loop-phase.invariant.at.0
    (g.S.ConcurrentSet.view (get_or c.args.players.now k d).caller) (get_or c.loop-phase.players k d) (get_or c.begin_phase.new.players k d) (at.each k d before) (met.each k d now) of phase (calls_few plan k c.phases-phase-end.ensures.limits of)

pub loop-phase-preserved : goal.loop-phase-preserved
loop-phase-preserved g c =
    let plan = c.args.workload.now in
    let at = c.loop-phase.invariant.at.1 in
    let met = c.begin_phase.ensures.1 in
    record {
      last = c.loop-phase.invariant.last;
      first = λ zero. absurd (omega (arith, zero));
      at = (
        c.loop-phase.invariant.at.0 ++ c.begin_phase.ensures.0 ∷ [],
        record {
          same_length = c.play_phase.ensures.same_length ∙ met.same_length ∙ at.same_length;
          each = λ k d before.
              let now : k < length c.loop-phase.players = subst (λ n. k < n) (sym at.same_length) before in
              let there : k < length c.begin_phase.new.players = subst (λ n. k < n) (sym met.same_length) now in
              let of : k < length plan.lists = subst (λ n. k < n) c.requires.all before in
              let phase : c.loop-phase.phase < length (get_or plan.lists k []) = phases_there plan k c.loop-phase.phase c.phases-phase-end.ensures.limits of (subst (λ n. c.loop-phase.phase < n) c.loop-phase.invariant.last c.loop-phase-test.true) in
              at_next g.S.ConcurrentSet.has c.args.set.now plan.lists g.S.ConcurrentSet.view (g.S.ConcurrentSet.steps (g.S.ConcurrentSet.setup c.args.set.now)) c.args.budget c.loop-phase.phase k c.begin_phase.ensures.0 c.loop-phase.invariant.at.0
              (g.S.ConcurrentSet.view (get_or c.args.players.now k d).caller) (get_or c.loop-phase.players k d) (get_or c.begin_phase.new.players k d) (get_or c.play_phase.new.players k d) (at.each k d before) (met.each k d now) (c.play_phase.ensures.each k d there) phase;
        },
      );
    }
