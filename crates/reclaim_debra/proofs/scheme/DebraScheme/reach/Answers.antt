use Rattle.std.proofs.Common.{◌≡◌, Bool, true, ap, sym, ◌∙◌, refl, subst, Some, None}
use Rattle.std.proofs.lemmas.Nat.{and_mask}
use Rattle.row_words.specs.Refs.{LinkParts}
use Rattle.row_words.specs.Packing.{link_in}
use Rattle.record_rule.specs.Facts.{mark_bit}
use Rattle.record_table.specs.Handles.{view, since, is_inside}
use Rattle.record_table.specs.Nodes.{origin, HasStarted}
use Rattle.record_table.specs.declared.passes.Pass.{Pass}
use Rattle.reclaim_debra.specs.declared.bags.Bags.{Bags}
use Rattle.reclaim_debra.specs.LocalParts.{IsActive, IsGuarded, IsLocal}
use Rattle.reclaim_api.proofs.Reaching.{odd, marked_none, missing_none}
use Rattle.reclaim_debra.proofs.Reaching.{reached_local, has_seen, holds_there, nothing_there, keeps_else}
use Rattle.reclaim_debra.proofs.scheme.DebraScheme.reach.Goals as goal

has_started : {S R : Type 0} (l : Bags) (p : Pass S R) → is_inside p ≡ true → IsLocal l (is_inside p) (since p) (view p) → HasStarted p
has_started l p inside h = let active : IsActive (since p) (view p) = subst (λ (x : Bool). IsGuarded x (since p) (view p)) inside h.guarded in active.started

pub returns-then-link-ne0-clause-local : goal.returns-then-link-ne0-clause-local
returns-then-link-ne0-clause-local g c = let s = c.reach_link-link.ensures.step in let same = c.reach_link-link.ensures.pass in
    reached_local g.S.Shape.facts c.args.pass.now c.reach_link-link.new.pass (origin c.args.from) c.args.place s.0 s.2 (ap (λ x. x.value.me.0) same.since) c.args._local.now _ _ c.requires.inside.inside (ap (λ x. x.value) same.inside ∙ c.requires.inside.inside) c.requires.local

pub returns-in-Some-clause-local : goal.returns-in-Some-clause-local
returns-in-Some-clause-local g c = let s = c.reach_link-link.ensures.step in let same = c.reach_link-link.ensures.pass in
    reached_local g.S.Shape.facts c.args.pass.now c.reach_link-link.new.pass (origin c.args.from) c.args.place s.0 s.2 (ap (λ x. x.value.me.0) same.since) c.args._local.now _ _ c.requires.inside.inside (ap (λ x. x.value) same.inside ∙ c.requires.inside.inside) c.requires.local

pub returns-in-None-clause-local : goal.returns-in-None-clause-local
returns-in-None-clause-local g c = let s = c.reach_link-link.ensures.step in let same = c.reach_link-link.ensures.pass in
    reached_local g.S.Shape.facts c.args.pass.now c.reach_link-link.new.pass (origin c.args.from) c.args.place s.0 s.2 (ap (λ x. x.value.me.0) same.since) c.args._local.now _ _ c.requires.inside.inside (ap (λ x. x.value) same.inside ∙ c.requires.inside.inside) c.requires.local

pub returns-in-Some-clause-reached : goal.returns-in-Some-clause-reached
returns-in-Some-clause-reached g c = let s = c.reach_link-link.ensures.step in let link = c.link.view_is ∙ s.1 in
    let began = ap (λ x. x.value.me.0) c.reach_link-link.ensures.pass.since in let started = has_started c.args._local.now c.args.pass.now c.requires.inside.inside c.requires.local in
    let clear : mark_bit (link_in s.0) ≡ 0 = ap mark_bit (sym link) ∙ sym (and_mask c.link.inside.flags 1) ∙ c.if-link-ne0.false in
    let to : (link_in s.0).target ≡ Some c.in-Some.target = ap (λ (l : LinkParts). l.target) (sym link) ∙ c.in-Some.is in (
      holds_there g.S.Shape.facts c.args.pass.now c.reach_link-link.new.pass (origin c.args.from) c.args.place s.0 s.2 began started c.requires.place c.in-Some.target clear to,
      refl,
      (link_in s.0, clear, to, has_seen g.S.Shape.facts c.args.pass.now c.reach_link-link.new.pass (origin c.args.from) c.args.place s.0 s.2 began started c.requires.place (link_in s.0) refl),
    )

pub returns-in-None-clause-reached : goal.returns-in-None-clause-reached
returns-in-None-clause-reached g c = let s = c.reach_link-link.ensures.step in let link = c.link.view_is ∙ s.1 in
    let began = ap (λ x. x.value.me.0) c.reach_link-link.ensures.pass.since in let started = has_started c.args._local.now c.args.pass.now c.requires.inside.inside c.requires.local in
    let clear : mark_bit (link_in s.0) ≡ 0 = ap mark_bit (sym link) ∙ sym (and_mask c.link.inside.flags 1) ∙ c.if-link-ne0.false in
    let to : (link_in s.0).target ≡ None = ap (λ (l : LinkParts). l.target) (sym link) ∙ c.in-None.is in (
      link_in s.0,
      clear,
      to,
      has_seen g.S.Shape.facts c.args.pass.now c.reach_link-link.new.pass (origin c.args.from) c.args.place s.0 s.2 began started c.requires.place (link_in s.0) refl,
      nothing_there g.S.Shape.facts c.args.pass.now c.reach_link-link.new.pass (origin c.args.from) c.args.place s.0 s.2 began started c.requires.place (missing_none s.0 clear to),
    )

pub returns-then-link-ne0-clause-reached : goal.returns-then-link-ne0-clause-reached
returns-then-link-ne0-clause-reached g c = let s = c.reach_link-link.ensures.step in let began = ap (λ x. x.value.me.0) c.reach_link-link.ensures.pass.since in let started = has_started c.args._local.now c.args.pass.now c.requires.inside.inside c.requires.local in (
  ap mark_bit (sym c.link.view_is) ∙ odd c.link.inside.flags c.if-link-ne0.true,
  has_seen g.S.Shape.facts c.args.pass.now c.reach_link-link.new.pass (origin c.args.from) c.args.place s.0 s.2 began started c.requires.place c.reach_link-link.result (sym s.1),
  nothing_there g.S.Shape.facts c.args.pass.now c.reach_link-link.new.pass (origin c.args.from) c.args.place s.0 s.2 began started c.requires.place (marked_none s.0 (ap mark_bit (sym (c.link.view_is ∙ s.1)) ∙ odd c.link.inside.flags c.if-link-ne0.true)),
)

pub returns-then-link-ne0-clause-keeps : goal.returns-then-link-ne0-clause-keeps
returns-then-link-ne0-clause-keeps g c = let s = c.reach_link-link.ensures.step in
    keeps_else g.S.Shape.facts c.args.pass.now c.reach_link-link.new.pass (origin c.args.from) c.args.place s.0 s.2 (ap (λ x. x.value.me.0) c.reach_link-link.ensures.pass.since) (has_started c.args._local.now c.args.pass.now c.requires.inside.inside c.requires.local) c.requires.place

pub returns-in-Some-clause-keeps : goal.returns-in-Some-clause-keeps
returns-in-Some-clause-keeps g c = let s = c.reach_link-link.ensures.step in
    keeps_else g.S.Shape.facts c.args.pass.now c.reach_link-link.new.pass (origin c.args.from) c.args.place s.0 s.2 (ap (λ x. x.value.me.0) c.reach_link-link.ensures.pass.since) (has_started c.args._local.now c.args.pass.now c.requires.inside.inside c.requires.local) c.requires.place

pub returns-in-None-clause-keeps : goal.returns-in-None-clause-keeps
returns-in-None-clause-keeps g c = let s = c.reach_link-link.ensures.step in
    keeps_else g.S.Shape.facts c.args.pass.now c.reach_link-link.new.pass (origin c.args.from) c.args.place s.0 s.2 (ap (λ x. x.value.me.0) c.reach_link-link.ensures.pass.since) (has_started c.args._local.now c.args.pass.now c.requires.inside.inside c.requires.local) c.requires.place
