use Rattle.std.proofs.Common.{ap, sym, ◌∙◌, refl, arith}
use Rattle.row_words.specs.Refs.{LinkParts}
use Rattle.record_table.specs.Nodes.{origin}
use Rattle.reclaim_api.specs.declared.following.Reached.TheVariants.{Null, Held}
use Rattle.reclaim_api.proofs.FollowedLinks.{has_followed, holds_there, holds_none, keeps_else, local_then, inside_started}
use Rattle.reclaim_api.proofs.following.follow.Goals as goal

pub returns-in-Some-clause-local : goal.returns-in-Some-clause-local
returns-in-Some-clause-local g c = let s = c.reach_frozen-link.ensures.step in
    local_then g.S.Shape.facts g.R.Cover.facts g.met.R.CoversFrozen.frozen c.args.pass.now c.reach_frozen-link.new.pass (origin c.args.from)
    c.args.place s.0 s.2 (ap (λ x. x.value.me.0) c.reach_frozen-link.ensures.pass.since) c.requires.inside.later (inside_started c.args.pass.now g.R.Scheme.is_local c.args.local.now g.R.Cover.facts g.met.R.Follows.has_started c.requires.inside.inside c.requires.local)
    g.R.Scheme.is_local c.args.local.now _ c.requires.inside.inside (ap (λ x. x.value) c.reach_frozen-link.ensures.pass.inside ∙ c.requires.inside.inside) g.met.R.Scheme.local_stays g.met.R.Follows.local_holds c.requires.local

pub returns-in-Some-clause-keeps : goal.returns-in-Some-clause-keeps
returns-in-Some-clause-keeps g c = let s = c.reach_frozen-link.ensures.step in
    keeps_else g.S.Shape.facts g.R.Cover.facts g.met.R.CoversFrozen.frozen c.args.pass.now c.reach_frozen-link.new.pass (origin c.args.from)
    c.args.place s.0 s.2 (ap (λ x. x.value.me.0) c.reach_frozen-link.ensures.pass.since) c.requires.inside.later (inside_started c.args.pass.now g.R.Scheme.is_local c.args.local.now g.R.Cover.facts g.met.R.Follows.has_started c.requires.inside.inside c.requires.local)
    (let e = g.met.R.Scheme.placed in let low = c.requires.place in omega arith)

pub returns-in-Some-clause-reached : goal.returns-in-Some-clause-reached
returns-in-Some-clause-reached g c = let s = c.reach_frozen-link.ensures.step in let link = c.link.view_is ∙ s.1 in let leads = sym (ap (λ (l : LinkParts). l.target) link) ∙ c.in-Some.is in let flags = sym (ap (λ (l : LinkParts). l.flags) link) in
    has_followed g.S.Shape.facts g.R.Cover.facts g.met.R.CoversFrozen.frozen c.args.pass.now c.reach_frozen-link.new.pass (origin c.args.from)
    c.args.place s.0 s.2 (ap (λ x. x.value.me.0) c.reach_frozen-link.ensures.pass.since) c.requires.inside.later (inside_started c.args.pass.now g.R.Scheme.is_local c.args.local.now g.R.Cover.facts g.met.R.Follows.has_started c.requires.inside.inside c.requires.local)
    g.R.Scheme.is_local c.args.local.now c.requires.inside.inside g.met.R.Scheme.local_stays g.met.R.Follows.local_holds g.met.R.Follows.starts_behind c.requires.local
    (let e = g.met.R.Scheme.placed in let low = c.requires.place in omega arith) (Held (record { place = c.args.place; target = c.in-Some.target }) c.link.inside.flags) (λ k. record { flags = flags k; target = leads k }) (
      holds_there g.S.Shape.facts g.R.Cover.facts g.met.R.CoversFrozen.frozen c.args.pass.now c.reach_frozen-link.new.pass (origin c.args.from)
          c.args.place s.0 s.2 (ap (λ x. x.value.me.0) c.reach_frozen-link.ensures.pass.since) c.requires.inside.later (inside_started c.args.pass.now g.R.Scheme.is_local c.args.local.now g.R.Cover.facts g.met.R.Follows.has_started c.requires.inside.inside c.requires.local)
          (let e = g.met.R.Scheme.placed in let low = c.requires.place in omega arith) c.in-Some.target leads,
      refl,
    )

pub returns-in-None-clause-local : goal.returns-in-None-clause-local
returns-in-None-clause-local g c = let s = c.reach_frozen-link.ensures.step in
    local_then g.S.Shape.facts g.R.Cover.facts g.met.R.CoversFrozen.frozen c.args.pass.now c.reach_frozen-link.new.pass (origin c.args.from)
    c.args.place s.0 s.2 (ap (λ x. x.value.me.0) c.reach_frozen-link.ensures.pass.since) c.requires.inside.later (inside_started c.args.pass.now g.R.Scheme.is_local c.args.local.now g.R.Cover.facts g.met.R.Follows.has_started c.requires.inside.inside c.requires.local)
    g.R.Scheme.is_local c.args.local.now _ c.requires.inside.inside (ap (λ x. x.value) c.reach_frozen-link.ensures.pass.inside ∙ c.requires.inside.inside) g.met.R.Scheme.local_stays g.met.R.Follows.local_holds c.requires.local

pub returns-in-None-clause-keeps : goal.returns-in-None-clause-keeps
returns-in-None-clause-keeps g c = let s = c.reach_frozen-link.ensures.step in
    keeps_else g.S.Shape.facts g.R.Cover.facts g.met.R.CoversFrozen.frozen c.args.pass.now c.reach_frozen-link.new.pass (origin c.args.from)
    c.args.place s.0 s.2 (ap (λ x. x.value.me.0) c.reach_frozen-link.ensures.pass.since) c.requires.inside.later (inside_started c.args.pass.now g.R.Scheme.is_local c.args.local.now g.R.Cover.facts g.met.R.Follows.has_started c.requires.inside.inside c.requires.local)
    (let e = g.met.R.Scheme.placed in let low = c.requires.place in omega arith)

pub returns-in-None-clause-reached : goal.returns-in-None-clause-reached
returns-in-None-clause-reached g c = let s = c.reach_frozen-link.ensures.step in let link = c.link.view_is ∙ s.1 in let leads = sym (ap (λ (l : LinkParts). l.target) link) ∙ c.in-None.is in let flags = sym (ap (λ (l : LinkParts). l.flags) link) in
    has_followed g.S.Shape.facts g.R.Cover.facts g.met.R.CoversFrozen.frozen c.args.pass.now c.reach_frozen-link.new.pass (origin c.args.from)
    c.args.place s.0 s.2 (ap (λ x. x.value.me.0) c.reach_frozen-link.ensures.pass.since) c.requires.inside.later (inside_started c.args.pass.now g.R.Scheme.is_local c.args.local.now g.R.Cover.facts g.met.R.Follows.has_started c.requires.inside.inside c.requires.local)
    g.R.Scheme.is_local c.args.local.now c.requires.inside.inside g.met.R.Scheme.local_stays g.met.R.Follows.local_holds g.met.R.Follows.starts_behind c.requires.local
    (let e = g.met.R.Scheme.placed in let low = c.requires.place in omega arith) (Null c.link.inside.flags) (λ k. record { flags = flags k; target = leads k })
    (holds_none g.S.Shape.facts g.R.Cover.facts g.met.R.CoversFrozen.frozen c.args.pass.now c.reach_frozen-link.new.pass (origin c.args.from)
    c.args.place s.0 s.2 (ap (λ x. x.value.me.0) c.reach_frozen-link.ensures.pass.since) c.requires.inside.later (inside_started c.args.pass.now g.R.Scheme.is_local c.args.local.now g.R.Cover.facts g.met.R.Follows.has_started c.requires.inside.inside c.requires.local)
    (let e = g.met.R.Scheme.placed in let low = c.requires.place in omega arith) leads)
