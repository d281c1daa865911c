use Rattle.std.proofs.Common.{◌≡◌, ap, sym, ◌∙◌, refl, Some, None}
use Rattle.std.proofs.lemmas.Nat.{and_mask}
use Rattle.row_words.specs.Refs.{LinkParts}
use Rattle.row_words.specs.Packing.{link_in}
use Rattle.record_rule.specs.Facts.{mark_bit}
use Rattle.record_table.specs.Nodes.{origin}
use Rattle.reclaim_api.proofs.Reaching.{odd, marked_none, missing_none}
use Rattle.reclaim_none.proofs.Reaching.{has_seen, holds_there, nothing_there, keeps_else}
use Rattle.reclaim_none.proofs.scheme.NoReclaimScheme.reach.Goals as goal

pub returns-in-Some-clause-reached : goal.returns-in-Some-clause-reached
returns-in-Some-clause-reached g c = let s = c.reach_link-link.ensures.step in let link = c.link.view_is ∙ s.1 in
    let began = ap (λ x. x.value.me.0) c.reach_link-link.ensures.pass.since in
    let clear : mark_bit (link_in s.0) ≡ 0 = ap mark_bit (sym link) ∙ sym (and_mask c.link.inside.flags 1) ∙ c.if-link-ne0.false in
    let to : (link_in s.0).target ≡ Some c.in-Some.target = ap (λ (l : LinkParts). l.target) (sym link) ∙ c.in-Some.is in (
      holds_there g.S.Shape.facts c.args.pass.now c.reach_link-link.new.pass (origin c.args.from) c.args.place s.0 s.2 began c.requires.inside.later c.requires.place c.in-Some.target clear to,
      refl,
      (link_in s.0, clear, to, has_seen g.S.Shape.facts c.args.pass.now c.reach_link-link.new.pass (origin c.args.from) c.args.place s.0 s.2 began c.requires.inside.later c.requires.place (link_in s.0) refl),
    )

pub returns-in-None-clause-reached : goal.returns-in-None-clause-reached
returns-in-None-clause-reached g c = let s = c.reach_link-link.ensures.step in let link = c.link.view_is ∙ s.1 in
    let began = ap (λ x. x.value.me.0) c.reach_link-link.ensures.pass.since in
    let clear : mark_bit (link_in s.0) ≡ 0 = ap mark_bit (sym link) ∙ sym (and_mask c.link.inside.flags 1) ∙ c.if-link-ne0.false in
    let to : (link_in s.0).target ≡ None = ap (λ (l : LinkParts). l.target) (sym link) ∙ c.in-None.is in (
      link_in s.0,
      clear,
      to,
      has_seen g.S.Shape.facts c.args.pass.now c.reach_link-link.new.pass (origin c.args.from) c.args.place s.0 s.2 began c.requires.inside.later c.requires.place (link_in s.0) refl,
      nothing_there g.S.Shape.facts c.args.pass.now c.reach_link-link.new.pass (origin c.args.from) c.args.place s.0 s.2 began c.requires.inside.later c.requires.place (missing_none s.0 clear to),
    )

pub returns-then-link-ne0-clause-reached : goal.returns-then-link-ne0-clause-reached
returns-then-link-ne0-clause-reached g c = let s = c.reach_link-link.ensures.step in let began = ap (λ x. x.value.me.0) c.reach_link-link.ensures.pass.since in (
  ap mark_bit (sym c.link.view_is) ∙ odd c.link.inside.flags c.if-link-ne0.true,
  has_seen g.S.Shape.facts c.args.pass.now c.reach_link-link.new.pass (origin c.args.from) c.args.place s.0 s.2 began c.requires.inside.later c.requires.place c.reach_link-link.result (sym s.1),
  nothing_there g.S.Shape.facts c.args.pass.now c.reach_link-link.new.pass (origin c.args.from) c.args.place s.0 s.2 began c.requires.inside.later c.requires.place (marked_none s.0 (ap mark_bit (sym (c.link.view_is ∙ s.1)) ∙ odd c.link.inside.flags c.if-link-ne0.true)),
)

pub returns-then-link-ne0-clause-keeps : goal.returns-then-link-ne0-clause-keeps
returns-then-link-ne0-clause-keeps g c = let s = c.reach_link-link.ensures.step in
    keeps_else g.S.Shape.facts c.args.pass.now c.reach_link-link.new.pass (origin c.args.from) c.args.place s.0 s.2 (ap (λ x. x.value.me.0) c.reach_link-link.ensures.pass.since) c.requires.inside.later c.requires.place

pub returns-in-Some-clause-keeps : goal.returns-in-Some-clause-keeps
returns-in-Some-clause-keeps g c = let s = c.reach_link-link.ensures.step in
    keeps_else g.S.Shape.facts c.args.pass.now c.reach_link-link.new.pass (origin c.args.from) c.args.place s.0 s.2 (ap (λ x. x.value.me.0) c.reach_link-link.ensures.pass.since) c.requires.inside.later c.requires.place

pub returns-in-None-clause-keeps : goal.returns-in-None-clause-keeps
returns-in-None-clause-keeps g c = let s = c.reach_link-link.ensures.step in
    keeps_else g.S.Shape.facts c.args.pass.now c.reach_link-link.new.pass (origin c.args.from) c.args.place s.0 s.2 (ap (λ x. x.value.me.0) c.reach_link-link.ensures.pass.since) c.requires.inside.later c.requires.place
