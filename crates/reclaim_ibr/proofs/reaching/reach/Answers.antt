use Rattle.std.proofs.Common.{◌≡◌, [], ◌∷◌, ◌++◌, Bool, true, Some, None, sym, refl, ap, ◌∙◌, subst}
use Rattle.std.proofs.lemmas.Nat.{and_mask}
use Rattle.row_words.specs.Refs.{LinkParts}
use Rattle.row_words.specs.Packing.{link_in}
use Rattle.record_memory.specs.declared.books.View.{View}
use Rattle.record_rule.specs.Facts.{At, mark_bit}
use Rattle.record_table.specs.declared.passes.Pass.{Pass}
use Rattle.record_table.specs.Handles.{view, since, is_inside, same_then}
use Rattle.record_table.specs.Nodes.{origin, HasStarted, reach_at}
use Rattle.guard_facts.specs.Announcing.{reading}
use Rattle.reclaim_api.specs.LinkLoads.{link_load}
use Rattle.reclaim_api.specs.StepForms.{epoch_load, word_store}
use Rattle.reclaim_api.proofs.Keeping.{keeps_then, keeps_less}
use Rattle.reclaim_ibr.specs.declared.interval.Interval.{Interval}
use Rattle.reclaim_ibr.specs.LocalParts.{IsAnnounced, IsGuarded, IsLocal}
use Rattle.reclaim_ibr.specs.Running.{IsRead, confirms, raises}
use Rattle.reclaim_ibr.proofs.Locals.{local_pass}
use Rattle.ibr_facts.specs.Keeping.{ibr}
use Rattle.ibr_facts.proofs.Reaching.{reached_so}
use Rattle.reclaim_api.specs.Holds.{HoldsNothing}
use Rattle.reclaim_api.proofs.Reaching.{odd, marked_none, missing_none, holds_nothing}
use Rattle.reclaim_ibr.proofs.Holding.{seen_then, seen_after, keeps_then_else, keeps_loaded_else, holds_there, holds_none}
use Rattle.reclaim_ibr.proofs.Trying.{is_read, upper_raised, keeps_raise, local_stopped, local_held, local_raised, held_steps, raised_steps}
use Rattle.reclaim_ibr.proofs.reaching.reach.Goals as goal

-- inside an operation its guard has started
has_started : {S R : Type 0} (l : Interval) (p : Pass S R) → is_inside p ≡ true → IsLocal l (is_inside p) (since p) (view p) → HasStarted p
has_started l p inside h = let a : IsAnnounced (since p) (view p) = subst (λ (b : Bool). IsGuarded b (since p) (view p)) inside h.guarded in a.started

pub returns-then-link-ne0-clause-local : goal.returns-then-link-ne0-clause-local
returns-then-link-ne0-clause-local g c = let s = c.reach_link-link.ensures.step in let p = c.args.pass.now in let q = c.reach_link-link.new.pass in let same = ap (λ x. x.value.me.0) c.reach_link-link.ensures.pass.since in
    let marked : mark_bit (link_in s.0) ≡ 1 = ap mark_bit (sym (c.link.view_is ∙ s.1)) ∙ odd c.link.inside.flags c.if-link-ne0.true in
    local_pass c.args.local.now p q c.reach_link-link.ensures.pass
    (local_stopped g.S.Shape.facts p q (origin c.args.from) c.args.place s.0 s.2 same c.args.local.now (is_inside p) (since p) (marked_none s.0 marked) c.requires.local)

pub returns-then-link-ne0-clause-reached : goal.returns-then-link-ne0-clause-reached
returns-then-link-ne0-clause-reached g c = let s = c.reach_link-link.ensures.step in let p = c.args.pass.now in let q = c.reach_link-link.new.pass in let same = ap (λ x. x.value.me.0) c.reach_link-link.ensures.pass.since in (
  ap mark_bit (sym c.link.view_is) ∙ odd c.link.inside.flags c.if-link-ne0.true,
  seen_then g.S.Shape.facts p q (origin c.args.from) c.args.place s.0 s.2 same (has_started c.args.local.now p c.requires.inside.inside c.requires.local) c.requires.place c.reach_link-link.result (sym s.1),
  holds_nothing g.S.Shape.facts ibr q (view p) (origin c.args.from) (reach_at p c.args.place) _ s.0 s.2 (λ m t. reached_so m _ _ t) (marked_none s.0 (ap mark_bit (sym (c.link.view_is ∙ s.1)) ∙ odd c.link.inside.flags c.if-link-ne0.true)),
)

pub returns-then-link-ne0-clause-keeps : goal.returns-then-link-ne0-clause-keeps
returns-then-link-ne0-clause-keeps g c = let s = c.reach_link-link.ensures.step in
    keeps_then_else g.S.Shape.facts c.args.pass.now c.reach_link-link.new.pass (origin c.args.from) c.args.place s.0 s.2 (ap (λ x. x.value.me.0) c.reach_link-link.ensures.pass.since)

pub returns-in_default-clause-local : goal.returns-in_default-clause-local
returns-in_default-clause-local g c = let s = c.reach_link-link.ensures.step in let p = c.args.pass.now in let q = c.reach_link-link.new.pass in let same = ap (λ x. x.value.me.0) c.reach_link-link.ensures.pass.since in
    let link = c.link.view_is ∙ s.1 in
    let clear : mark_bit (link_in s.0) ≡ 0 = ap mark_bit (sym link) ∙ sym (and_mask c.link.inside.flags 1) ∙ c.if-link-ne0.false in
    let to : (link_in s.0).target ≡ None = ap (λ (l : LinkParts). l.target) (sym link) ∙ c.in_default.is in
    local_pass c.args.local.now p q c.reach_link-link.ensures.pass
    (local_stopped g.S.Shape.facts p q (origin c.args.from) c.args.place s.0 s.2 same c.args.local.now (is_inside p) (since p) (missing_none s.0 clear to) c.requires.local)

pub returns-in_default-clause-reached : goal.returns-in_default-clause-reached
returns-in_default-clause-reached g c = let s = c.reach_link-link.ensures.step in let p = c.args.pass.now in let q = c.reach_link-link.new.pass in let same = ap (λ x. x.value.me.0) c.reach_link-link.ensures.pass.since in
    let link = c.link.view_is ∙ s.1 in
    let clear : mark_bit (link_in s.0) ≡ 0 = ap mark_bit (sym link) ∙ sym (and_mask c.link.inside.flags 1) ∙ c.if-link-ne0.false in
    let to : (link_in s.0).target ≡ None = ap (λ (l : LinkParts). l.target) (sym link) ∙ c.in_default.is in (
      link_in s.0,
      clear,
      to,
      seen_then g.S.Shape.facts p q (origin c.args.from) c.args.place s.0 s.2 same (has_started c.args.local.now p c.requires.inside.inside c.requires.local) c.requires.place (link_in s.0) refl,
      holds_nothing g.S.Shape.facts ibr q (view p) (origin c.args.from) (reach_at p c.args.place) _ s.0 s.2 (λ m t. reached_so m _ _ t) (missing_none s.0 clear to),
    )

pub returns-in_default-clause-keeps : goal.returns-in_default-clause-keeps
returns-in_default-clause-keeps g c = let s = c.reach_link-link.ensures.step in
    keeps_then_else g.S.Shape.facts c.args.pass.now c.reach_link-link.new.pass (origin c.args.from) c.args.place s.0 s.2 (ap (λ x. x.value.me.0) c.reach_link-link.ensures.pass.since)

pub returns-then-epoch-local-clause-local : goal.returns-then-epoch-local-clause-local
returns-then-epoch-local-clause-local g c = let s = c.reach_link-link.ensures.step in let p = c.args.pass.now in let then = c.reach_link-link.new.pass in let q = c.load_epoch-epoch.new.pass in
    let same = ap (λ x. x.value.me.0) c.reach_link-link.ensures.pass.since in let goes_on = ap (λ x. x.value.me.0) c.load_epoch-epoch.ensures.pass.since in
    let link = c.link.view_is ∙ s.1 in
    let clear : mark_bit (link_in s.0) ≡ 0 = ap mark_bit (sym link) ∙ sym (and_mask c.link.inside.flags 1) ∙ c.if-link-ne0.false in
    let to : (link_in s.0).target ≡ Some c.in-Some.target = ap (λ (l : LinkParts). l.target) (sym link) ∙ c.in-Some.is in
    local_pass c.args.local.now p q (same_then p then q c.reach_link-link.ensures.pass c.load_epoch-epoch.ensures.pass)
    (local_held g.S.Shape.facts p then (origin c.args.from) c.args.place s.0 s.2 same q c.load_epoch-epoch.result c.load_epoch-epoch.ensures.loaded goes_on c.in-Some.target clear to
    c.args.local.now (is_inside p) (since p) (c.if-epoch-local.true ∙ sym c.requires.local.upper) c.requires.local)

pub returns-then-epoch-local-clause-reached : goal.returns-then-epoch-local-clause-reached
returns-then-epoch-local-clause-reached g c = let s = c.reach_link-link.ensures.step in let p = c.args.pass.now in let then = c.reach_link-link.new.pass in let q = c.load_epoch-epoch.new.pass in
    let same = ap (λ x. x.value.me.0) c.reach_link-link.ensures.pass.since in let goes_on = ap (λ x. x.value.me.0) c.load_epoch-epoch.ensures.pass.since in
    let link = c.link.view_is ∙ s.1 in let started = has_started c.args.local.now p c.requires.inside.inside c.requires.local in
    let clear : mark_bit (link_in s.0) ≡ 0 = ap mark_bit (sym link) ∙ sym (and_mask c.link.inside.flags 1) ∙ c.if-link-ne0.false in
    let to : (link_in s.0).target ≡ Some c.in-Some.target = ap (λ (l : LinkParts). l.target) (sym link) ∙ c.in-Some.is in (
      holds_there g.S.Shape.facts p then (origin c.args.from) c.args.place s.0 s.2 same q c.load_epoch-epoch.result c.load_epoch-epoch.ensures.loaded goes_on c.in-Some.target clear to started c.requires.place (c.if-epoch-local.true ∙ sym c.requires.local.upper),
      refl,
      (link_in s.0, clear, to, seen_after g.S.Shape.facts p then (origin c.args.from) c.args.place s.0 s.2 same q c.load_epoch-epoch.result c.load_epoch-epoch.ensures.loaded goes_on c.in-Some.target clear to started c.requires.place (link_in s.0) refl),
    )

pub returns-then-epoch-local-clause-keeps : goal.returns-then-epoch-local-clause-keeps
returns-then-epoch-local-clause-keeps g c = let s = c.reach_link-link.ensures.step in let p = c.args.pass.now in let then = c.reach_link-link.new.pass in let q = c.load_epoch-epoch.new.pass in
    let same = ap (λ x. x.value.me.0) c.reach_link-link.ensures.pass.since in let goes_on = ap (λ x. x.value.me.0) c.load_epoch-epoch.ensures.pass.since in
    let link = c.link.view_is ∙ s.1 in
    let clear : mark_bit (link_in s.0) ≡ 0 = ap mark_bit (sym link) ∙ sym (and_mask c.link.inside.flags 1) ∙ c.if-link-ne0.false in
    let to : (link_in s.0).target ≡ Some c.in-Some.target = ap (λ (l : LinkParts). l.target) (sym link) ∙ c.in-Some.is in
    keeps_then _ _ p then q (keeps_then_else g.S.Shape.facts p then (origin c.args.from) c.args.place s.0 s.2 same)
    (keeps_loaded_else g.S.Shape.facts p then (origin c.args.from) c.args.place s.0 s.2 same q c.load_epoch-epoch.result c.load_epoch-epoch.ensures.loaded goes_on c.in-Some.target clear to)

pub returns-then-epoch-local-clause-does : goal.returns-then-epoch-local-clause-does
returns-then-epoch-local-clause-does g c = let s = c.reach_link-link.ensures.step in let v : View = view c.args.pass.now in let e = c.load_epoch-epoch.result in let link = c.link.view_is ∙ s.1 in
    let same = ap (λ x. x.value.me.0) c.reach_link-link.ensures.pass.since in let goes_on = ap (λ x. x.value.me.0) c.load_epoch-epoch.ensures.pass.since in
    let clear : mark_bit (link_in s.0) ≡ 0 = ap mark_bit (sym link) ∙ sym (and_mask c.link.inside.flags 1) ∙ c.if-link-ne0.false in
    let to : (link_in s.0).target ≡ Some c.in-Some.target = ap (λ (l : LinkParts). l.target) (sym link) ∙ c.in-Some.is in
    confirms record {
      found = s.0;
      target = c.in-Some.target;
      link = record { clear = clear; leads = to };
      epoch = e;
      read = is_read g.S.Shape.facts c.args.pass.now c.reach_link-link.new.pass (origin c.args.from) c.args.place s.0 s.2 same c.load_epoch-epoch.new.pass e c.load_epoch-epoch.ensures.loaded goes_on c.in-Some.target clear to;
      same = c.if-epoch-local.true ∙ sym c.requires.local.upper;
      steps = held_steps g.S.Shape.facts v (view c.reach_link-link.new.pass) (view c.load_epoch-epoch.new.pass) c.args.from (reach_at c.args.pass.now c.args.place) s.0 s.2 e c.load_epoch-epoch.ensures.loaded
          ∙ (λ k. v.own.steps ++ link_load v.own c.args.from (sym c.requires.field k) s.0 ∷ epoch_load v.own e ∷ []);
      answer = refl;
    }

pub returns-clause-local : goal.returns-clause-local
returns-clause-local g c = let s = c.reach_link-link.ensures.step in let p = c.args.pass.now in let then = c.reach_link-link.new.pass in let q = c.load_epoch-epoch.new.pass in let x = c.raise.new.pass in let r = c.raise.ensures.stored in
    let same = ap (λ x. x.value.me.0) c.reach_link-link.ensures.pass.since in let goes_on = ap (λ x. x.value.me.0) c.load_epoch-epoch.ensures.pass.since in
    let link = c.link.view_is ∙ s.1 in
    let clear : mark_bit (link_in s.0) ≡ 0 = ap mark_bit (sym link) ∙ sym (and_mask c.link.inside.flags 1) ∙ c.if-link-ne0.false in
    let to : (link_in s.0).target ≡ Some c.in-Some.target = ap (λ (l : LinkParts). l.target) (sym link) ∙ c.in-Some.is in
    subst (λ (l : Interval). IsLocal l (is_inside x) (since x) (view x)) (sym c.raise.ensures.local)
    (local_pass (record c.args.local.now { upper = c.load_epoch-epoch.result }) p x (same_then p q x (same_then p then q c.reach_link-link.ensures.pass c.load_epoch-epoch.ensures.pass) c.raise.ensures.pass)
    (local_raised g.S.Shape.facts p then (origin c.args.from) c.args.place s.0 s.2 same q c.load_epoch-epoch.result c.load_epoch-epoch.ensures.loaded goes_on c.in-Some.target clear to
    c.args.local.now (is_inside p) (since p) (view x) r.0 r.1 c.requires.local))

pub returns-clause-reached : goal.returns-clause-reached
returns-clause-reached g c r at = let s = c.reach_link-link.ensures.step in let p = c.args.pass.now in let then = c.reach_link-link.new.pass in let q = c.load_epoch-epoch.new.pass in
    let same = ap (λ x. x.value.me.0) c.reach_link-link.ensures.pass.since in let goes_on = ap (λ x. x.value.me.0) c.load_epoch-epoch.ensures.pass.since in
    let link = c.link.view_is ∙ s.1 in
    let clear : mark_bit (link_in s.0) ≡ 0 = ap mark_bit (sym link) ∙ sym (and_mask c.link.inside.flags 1) ∙ c.if-link-ne0.false in
    let to : (link_in s.0).target ≡ Some c.in-Some.target = ap (λ (l : LinkParts). l.target) (sym link) ∙ c.in-Some.is in
    let none : HoldsNothing c.args.place q = holds_none g.S.Shape.facts p then (origin c.args.from) c.args.place s.0 s.2 same q c.load_epoch-epoch.result c.load_epoch-epoch.ensures.loaded goes_on c.in-Some.target clear to
    (λ found. c.if-epoch-local.false (found ∙ c.requires.local.upper)) in
    none r (subst (λ (v : View). At v.own.guard.holds c.args.place (Some r)) c.raise.ensures.stored.1 at)

pub returns-clause-keeps : goal.returns-clause-keeps
returns-clause-keeps g c = let s = c.reach_link-link.ensures.step in let p = c.args.pass.now in let then = c.reach_link-link.new.pass in let q = c.load_epoch-epoch.new.pass in let x = c.raise.new.pass in let r = c.raise.ensures.stored in
    let same = ap (λ x. x.value.me.0) c.reach_link-link.ensures.pass.since in let goes_on = ap (λ x. x.value.me.0) c.load_epoch-epoch.ensures.pass.since in
    let link = c.link.view_is ∙ s.1 in
    let clear : mark_bit (link_in s.0) ≡ 0 = ap mark_bit (sym link) ∙ sym (and_mask c.link.inside.flags 1) ∙ c.if-link-ne0.false in
    let to : (link_in s.0).target ≡ Some c.in-Some.target = ap (λ (l : LinkParts). l.target) (sym link) ∙ c.in-Some.is in
    keeps_then _ _ p q x (keeps_then _ _ p then q (keeps_then_else g.S.Shape.facts p then (origin c.args.from) c.args.place s.0 s.2 same)
    (keeps_loaded_else g.S.Shape.facts p then (origin c.args.from) c.args.place s.0 s.2 same q c.load_epoch-epoch.result c.load_epoch-epoch.ensures.loaded goes_on c.in-Some.target clear to))
    (keeps_less _ _ _ _ q x (λ other ne. tt) (λ other f ne. tt) (keeps_raise q x (ap (λ x. x.value.me.0) c.raise.ensures.pass.since) c.load_epoch-epoch.result r.0 r.1))

pub returns-clause-does : goal.returns-clause-does
returns-clause-does g c = let s = c.reach_link-link.ensures.step in let v : View = view c.args.pass.now in let e = c.load_epoch-epoch.result in let link = c.link.view_is ∙ s.1 in let r = c.raise.ensures.stored in
    let same = ap (λ x. x.value.me.0) c.reach_link-link.ensures.pass.since in let goes_on = ap (λ x. x.value.me.0) c.load_epoch-epoch.ensures.pass.since in
    let clear : mark_bit (link_in s.0) ≡ 0 = ap mark_bit (sym link) ∙ sym (and_mask c.link.inside.flags 1) ∙ c.if-link-ne0.false in
    let to : (link_in s.0).target ≡ Some c.in-Some.target = ap (λ (l : LinkParts). l.target) (sym link) ∙ c.in-Some.is in
    let was : IsRead v.own e (view c.load_epoch-epoch.new.pass).own = is_read g.S.Shape.facts c.args.pass.now c.reach_link-link.new.pass (origin c.args.from) c.args.place s.0 s.2 same c.load_epoch-epoch.new.pass e c.load_epoch-epoch.ensures.loaded goes_on c.in-Some.target clear to in
    raises record {
      found = s.0;
      target = c.in-Some.target;
      link = record { clear = clear; leads = to };
      epoch = e;
      read = record { rise = was.rise; limit = was.limit; read = ap (λ (x : View). reading x.own.guard 0) r.1 ∙ was.read };
      raised = upper_raised g.S.Shape.facts c.args.pass.now c.reach_link-link.new.pass (origin c.args.from) c.args.place s.0 s.2 same c.load_epoch-epoch.new.pass e c.load_epoch-epoch.ensures.loaded goes_on c.in-Some.target clear to (view c.raise.new.pass) r.0 r.1 c.requires.local.words;
      another = λ found. c.if-epoch-local.false (found ∙ c.requires.local.upper);
      upper = r.0;
      steps = raised_steps g.S.Shape.facts v (view c.reach_link-link.new.pass) (view c.load_epoch-epoch.new.pass) c.args.from (reach_at c.args.pass.now c.args.place) s.0 s.2 e c.load_epoch-epoch.ensures.loaded (view c.raise.new.pass) r.0 r.1
          ∙ (λ k. v.own.steps ++ link_load v.own c.args.from (sym c.requires.field k) s.0 ∷ epoch_load v.own e ∷ word_store v.own 1 e r.0 ∷ []);
      answer = refl;
    }
