use Rattle.std.proofs.Common.{◌∷◌, length, refl, sym, subst, arith}
use Rattle.set_runs.specs.Playing.{AtEach, HasMet}
use Rattle.set_runs.proofs.Learning.{all_met}
use Rattle.set_runs.proofs.meeting.meet_all.Goals as goal

pub returns-in-Some : goal.returns-in-Some
returns-in-Some g c =
    let view = g.S.ConcurrentSet.view in
    let bound = length (view c.gather.new.first.caller).front in
    let all = all_met g.S.ConcurrentSet.has c.args.set.now view c.in-Some.first.now c.gather.new.first c.spread.new.first c.in-Some.others.now c.gather.new.others c.spread.new.others
    c.gather.ensures.first c.spread.ensures.first c.gather.ensures.others c.spread.ensures.others c.gather.ensures.met c.spread.ensures.met in
    (bound, subst (λ ps. AtEach (λ i. HasMet g.S.ConcurrentSet.has c.args.set.now view bound) ps (c.spread.new.first ∷ c.spread.new.others)) (sym c.in-Some.ensures.cases.0) all)

pub returns-in_default : goal.returns-in_default
returns-in_default g c = (0, record { same_length = refl; each = λ i d there. absurd (omega (arith, there, c.in_default.ensures.cases)) })
