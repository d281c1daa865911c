use Rattle.std.proofs.Common.{◌≡◌, ◌+◌, All, length, sym, ap, ◌∙◌, subst, arith}
use Rattle.record_table.specs.Closing.{AreAllPasses}
use Rattle.manager.specs.Callers.{IsResting}
use Rattle.manager.specs.Made.{passes_of}
use Rattle.manager.specs.Meeting.{HaveMet, HaveAllMet}
use Rattle.manager.proofs.MeetingAll.{lent_whole, first_rests, others_rest, met_at_rest, all_same, all_passes, all_rest, all_know}
use Rattle.manager.proofs.types.Manager.meet_all.Goals as goal

pub gather-requires-clause-others : goal.gather-requires-clause-others
gather-requires-clause-others g c =
    let is = sym c.as_mut_slice.ensures.value ∙ c.in-Some.ensures.cases.0 in
    others_rest g.R.Scheme.is_local c.args.self.now.table c.in-Some.first.now c.in-Some.others.now _ is c.requires.passes c.requires.resting

pub gather-requires-clause-into : goal.gather-requires-clause-into
gather-requires-clause-into g c =
    let is = sym c.as_mut_slice.ensures.value ∙ c.in-Some.ensures.cases.0 in
    first_rests g.R.Scheme.is_local c.args.self.now.table c.in-Some.first.now c.in-Some.others.now _ is c.requires.passes c.requires.resting

pub spread-requires-clause-others : goal.spread-requires-clause-others
spread-requires-clause-others g c = met_at_rest g.R.Scheme.is_local c.args.self.now.table _ _ c.gather.ensures.others

pub returns-clause-passes : goal.returns-clause-passes
returns-clause-passes g c =
    let is = sym c.as_mut_slice.ensures.value ∙ c.in-Some.ensures.cases.0 in
    let all = ap length (sym c.as_mut_slice.ensures.value) ∙ c.as_mut_slice.ensures.len in
    let more : length c.spread.new.others + 1 ≡ c.args.callers.now.len = omega (arith, c.in-Some.ensures.cases.1, c.as_mut_slice.ensures.len, c.gather.ensures.others.many, c.spread.ensures.others.many) in
    subst (λ l. AreAllPasses c.args.self.now.table (passes_of l)) (sym (lent_whole c.spread.new.from c.spread.new.others c.args.callers.now.items c.args.callers.now.len all more))
    (all_passes g.R.Scheme.is_local c.args.self.now.table _ _ _ is c.requires.passes c.requires.resting _ _ _ _ c.gather.ensures.into c.spread.ensures.from c.gather.ensures.others c.spread.ensures.others)

pub returns-clause-resting : goal.returns-clause-resting
returns-clause-resting g c =
    let is = sym c.as_mut_slice.ensures.value ∙ c.in-Some.ensures.cases.0 in
    let all = ap length (sym c.as_mut_slice.ensures.value) ∙ c.as_mut_slice.ensures.len in
    let more : length c.spread.new.others + 1 ≡ c.args.callers.now.len = omega (arith, c.in-Some.ensures.cases.1, c.as_mut_slice.ensures.len, c.gather.ensures.others.many, c.spread.ensures.others.many) in
    subst (λ l. All (IsResting g.R.Scheme.is_local) l) (sym (lent_whole c.spread.new.from c.spread.new.others c.args.callers.now.items c.args.callers.now.len all more))
    (all_rest g.R.Scheme.is_local c.args.self.now.table _ _ _ is c.requires.passes c.requires.resting _ _ _ _ c.gather.ensures.into c.spread.ensures.from c.gather.ensures.others c.spread.ensures.others)

pub returns-clause-met : goal.returns-clause-met
returns-clause-met g c =
    let is = sym c.as_mut_slice.ensures.value ∙ c.in-Some.ensures.cases.0 in
    let all = ap length (sym c.as_mut_slice.ensures.value) ∙ c.as_mut_slice.ensures.len in
    let more : length c.spread.new.others + 1 ≡ c.args.callers.now.len = omega (arith, c.in-Some.ensures.cases.1, c.as_mut_slice.ensures.len, c.gather.ensures.others.many, c.spread.ensures.others.many) in
    subst (λ l. HaveAllMet c.args.callers.now.items l) (sym (lent_whole c.spread.new.from c.spread.new.others c.args.callers.now.items c.args.callers.now.len all more))
    (all_know g.R.Scheme.is_local c.args.self.now.table _ _ _ is c.requires.passes c.requires.resting _ _ _ _ c.gather.ensures.into c.spread.ensures.from c.gather.ensures.others c.spread.ensures.others c.gather.ensures.gathered c.spread.ensures.learnt)

pub returns-clause-same : goal.returns-clause-same
returns-clause-same g c =
    let is = sym c.as_mut_slice.ensures.value ∙ c.in-Some.ensures.cases.0 in
    let all = ap length (sym c.as_mut_slice.ensures.value) ∙ c.as_mut_slice.ensures.len in
    let more : length c.spread.new.others + 1 ≡ c.args.callers.now.len = omega (arith, c.in-Some.ensures.cases.1, c.as_mut_slice.ensures.len, c.gather.ensures.others.many, c.spread.ensures.others.many) in
    subst (λ l. HaveMet g.R.Scheme.is_local c.args.self.now.table c.args.callers.now.items l) (sym (lent_whole c.spread.new.from c.spread.new.others c.args.callers.now.items c.args.callers.now.len all more))
    (all_same g.R.Scheme.is_local c.args.self.now.table _ _ _ is c.requires.passes c.requires.resting _ _ _ _ c.gather.ensures.into c.spread.ensures.from c.gather.ensures.others c.spread.ensures.others)
