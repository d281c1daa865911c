use Rattle.std.proofs.Common.{sym, subst, ◌∙◌}
use Rattle.workload_text.specs.Limits.{Plan, IsWorkload}
use Rattle.workload_text.specs.Text.{IsTextOf}
use Rattle.workload_text.proofs.Steps.{ended_workload, ended_text, kept_whole, kept_cut, closed_cuts, version_two}
use Rattle.workload_text.proofs.progress.Progress.finish.Goals as goal

pub of-requires : goal.of-requires
of-requires c =
    let r = c.requires in
    subst IsWorkload (sym (kept_whole r.0 r.1 c.args.self c.push.new.self.items r.2 c.if-seen-eq1.true c.in_ok-push.ensures.items)) (ended_workload r.0 r.1 c.args.self r.2)

pub returns-then-seen-eq1-clause-text : goal.returns-then-seen-eq1-clause-text
returns-then-seen-eq1-clause-text c = λ bytes h.
    let r = c.requires in
    let same = c.of.ensures.plan ∙ kept_whole r.0 r.1 c.args.self c.push.new.self.items r.2 c.if-seen-eq1.true c.in_ok-push.ensures.items in
    subst (λ (plan : Plan). IsTextOf bytes plan) (sym same) (ended_text bytes c.args.self h)

pub cut-requires : goal.cut-requires
cut-requires c =
    let r = c.requires in
    let version = version_two r.0 _ c.args.self r.2.progress_is c.if-seen-eq1.false in
    let same = kept_cut r.0 r.1 c.args.self c.push.new.self.items c.push-2.new.self.items r.2 version c.in_ok-push.ensures.items c.in_ok-push-2.ensures.items in
    record {
      workload = subst IsWorkload (sym same) (ended_workload r.0 r.1 c.args.self r.2);
      cut = closed_cuts c.args.self c.push.new.self.items c.push-2.new.self.items r.2.progress_is.cut r.2.progress_is.open_cut c.in_ok-push.ensures.items c.in_ok-push-2.ensures.items;
    }

pub returns-clause-text : goal.returns-clause-text
returns-clause-text c = λ bytes h.
    let r = c.requires in
    let version = version_two r.0 _ c.args.self r.2.progress_is c.if-seen-eq1.false in
    let same = c.cut.ensures ∙ kept_cut r.0 r.1 c.args.self c.push.new.self.items c.push-2.new.self.items r.2 version c.in_ok-push.ensures.items c.in_ok-push-2.ensures.items in
    subst (λ (plan : Plan). IsTextOf bytes plan) (sym same) (ended_text bytes c.args.self h)
