use Rattle.std.proofs.Common.{◌≡◌, ap, sym, ◌∙◌, refl, subst, length, Some, None}
use Rattle.std.proofs.lemmas.Nat.{and_mask}
use Rattle.row_words.specs.Refs.{LinkParts}
use Rattle.row_words.specs.Packing.{link_in}
use Rattle.record_memory.specs.declared.books.View.{View}
use Rattle.record_memory.specs.declared.books.Setup.{Setup}
use Rattle.record_rule.specs.Facts.{mark_bit}
use Rattle.record_rule.specs.Links.{generation_at, ReachedLink}
use Rattle.record_table.specs.Handles.{view, since, is_inside}
use Rattle.record_table.specs.Nodes.{origin, reach_at}
use Rattle.record_table.specs.declared.nodes.Node.{Node}
use Rattle.reclaim_api.proofs.Keeping.{keeps_then}
use Rattle.hazard_facts.specs.Pointers.{hazard}
use Rattle.hazard_facts.proofs.Reaching.{has_reached}
use Rattle.reclaim_api.proofs.Reaching.{odd, marked_none, missing_none, holds_nothing}
use Rattle.reclaim_hazard.specs.LocalStays.{local_on}
use Rattle.reclaim_hazard.specs.Running.{confirms}
use Rattle.reclaim_hazard.proofs.Loads.{keeps_else, words_still, loaded_still, has_started, start_seen}
use Rattle.reclaim_hazard.proofs.Named.{node_still}
use Rattle.reclaim_hazard.proofs.Seeing.{has_seen}
use Rattle.reclaim_hazard.proofs.Confirming.{confirmed_reached, confirmed_steps}
use Rattle.reclaim_hazard.proofs.scheme.HazardScheme.reach.Goals as goal

pub returns-then-link-ne0-clause-local : goal.returns-then-link-ne0-clause-local
returns-then-link-ne0-clause-local g c = let s = c.reach_link-link.ensures.step in let p = c.args.pass.now in let q = c.reach_link-link.new.pass in let same = ap (λ x. x.value.me.0) c.reach_link-link.ensures.pass.since in
    local_on c.args.local.now (is_inside p) (is_inside q) (since p) (since q) (view p) (view q) c.reach_link-link.ensures.pass.setup c.reach_link-link.ensures.pass.caller (ap (λ (x : View). x.own.mine) s.2.view)
    (ap (λ l. length l) (words_still g.S.Shape.facts p q (origin c.same_node.result) c.args.place s.0 s.2 same c.requires.inside.later)) (loaded_still g.S.Shape.facts p q (origin c.same_node.result) c.args.place s.0 s.2 same c.requires.inside.later) c.requires.local

pub returns-then-link-ne0-clause-reached : goal.returns-then-link-ne0-clause-reached
returns-then-link-ne0-clause-reached g c = let s = c.reach_link-link.ensures.step in let p = c.args.pass.now in let q = c.reach_link-link.new.pass in let same = ap (λ x. x.value.me.0) c.reach_link-link.ensures.pass.since in
    let told : ReachedLink g.S.Shape.facts hazard (view p) (origin c.args.from) 3 (reach_at p c.args.place) s.0 (view q) = subst (λ (x : Node). ReachedLink g.S.Shape.facts hazard (view p) (origin x) 3 (reach_at p c.args.place) s.0 (view q)) c.same_node.ensures s.2 in (
      ap mark_bit (sym c.link.view_is) ∙ odd c.link.inside.flags c.if-link-ne0.true,
      has_seen g.S.Shape.facts hazard p q (view p) (origin c.args.from) (reach_at p c.args.place) s.0 told told.whole refl refl c.requires.place
          (has_started g.S.Shape.facts p q (origin c.args.from) c.args.place s.0 told same c.requires.inside.later) (start_seen g.S.Shape.facts p q (origin c.args.from) c.args.place s.0 told same c.requires.inside.later) c.reach_link-link.result (sym s.1),
      holds_nothing g.S.Shape.facts hazard q (view p) (origin c.args.from) (reach_at p c.args.place) _ s.0 told (λ m t. has_reached m _ _ t c.requires.place) (marked_none s.0 (ap mark_bit (sym (c.link.view_is ∙ s.1)) ∙ odd c.link.inside.flags c.if-link-ne0.true)),
    )

pub returns-then-link-ne0-clause-keeps : goal.returns-then-link-ne0-clause-keeps
returns-then-link-ne0-clause-keeps g c = let s = c.reach_link-link.ensures.step in keeps_else g.S.Shape.facts c.args.pass.now c.reach_link-link.new.pass (origin c.same_node.result) c.args.place s.0 s.2 (ap (λ x. x.value.me.0) c.reach_link-link.ensures.pass.since) c.requires.inside.later

pub returns-in_default-clause-local : goal.returns-in_default-clause-local
returns-in_default-clause-local g c = let s = c.reach_link-link.ensures.step in let p = c.args.pass.now in let q = c.reach_link-link.new.pass in let same = ap (λ x. x.value.me.0) c.reach_link-link.ensures.pass.since in
    local_on c.args.local.now (is_inside p) (is_inside q) (since p) (since q) (view p) (view q) c.reach_link-link.ensures.pass.setup c.reach_link-link.ensures.pass.caller (ap (λ (x : View). x.own.mine) s.2.view)
    (ap (λ l. length l) (words_still g.S.Shape.facts p q (origin c.same_node.result) c.args.place s.0 s.2 same c.requires.inside.later)) (loaded_still g.S.Shape.facts p q (origin c.same_node.result) c.args.place s.0 s.2 same c.requires.inside.later) c.requires.local

pub returns-in_default-clause-reached : goal.returns-in_default-clause-reached
returns-in_default-clause-reached g c = let s = c.reach_link-link.ensures.step in let p = c.args.pass.now in let q = c.reach_link-link.new.pass in let same = ap (λ x. x.value.me.0) c.reach_link-link.ensures.pass.since in
    let told : ReachedLink g.S.Shape.facts hazard (view p) (origin c.args.from) 3 (reach_at p c.args.place) s.0 (view q) = subst (λ (x : Node). ReachedLink g.S.Shape.facts hazard (view p) (origin x) 3 (reach_at p c.args.place) s.0 (view q)) c.same_node.ensures s.2 in
    let link = c.link.view_is ∙ s.1 in
    let clear : mark_bit (link_in s.0) ≡ 0 = ap mark_bit (sym link) ∙ sym (and_mask c.link.inside.flags 1) ∙ c.if-link-ne0.false in
    let to : (link_in s.0).target ≡ None = ap (λ (l : LinkParts). l.target) (sym link) ∙ c.in_default.is in (
      link_in s.0,
      clear,
      to,
      has_seen g.S.Shape.facts hazard p q (view p) (origin c.args.from) (reach_at p c.args.place) s.0 told told.whole refl refl c.requires.place
          (has_started g.S.Shape.facts p q (origin c.args.from) c.args.place s.0 told same c.requires.inside.later) (start_seen g.S.Shape.facts p q (origin c.args.from) c.args.place s.0 told same c.requires.inside.later) (link_in s.0) refl,
      holds_nothing g.S.Shape.facts hazard q (view p) (origin c.args.from) (reach_at p c.args.place) _ s.0 told (λ m t. has_reached m _ _ t c.requires.place) (missing_none s.0 clear to),
    )

pub returns-in_default-clause-keeps : goal.returns-in_default-clause-keeps
returns-in_default-clause-keeps g c = let s = c.reach_link-link.ensures.step in keeps_else g.S.Shape.facts c.args.pass.now c.reach_link-link.new.pass (origin c.same_node.result) c.args.place s.0 s.2 (ap (λ x. x.value.me.0) c.reach_link-link.ensures.pass.since) c.requires.inside.later

pub load_again-again-requires-clause-local : goal.load_again-again-requires-clause-local
load_again-again-requires-clause-local g c = let s = c.reach_link-link.ensures.step in let p = c.args.pass.now in let q = c.reach_link-link.new.pass in let same = ap (λ x. x.value.me.0) c.reach_link-link.ensures.pass.since in
    local_on c.args.local.now (is_inside p) (is_inside q) (since p) (since q) (view p) (view q) c.reach_link-link.ensures.pass.setup c.reach_link-link.ensures.pass.caller (ap (λ (x : View). x.own.mine) s.2.view)
    (ap (λ l. length l) (words_still g.S.Shape.facts p q (origin c.same_node.result) c.args.place s.0 s.2 same c.requires.inside.later)) (loaded_still g.S.Shape.facts p q (origin c.same_node.result) c.args.place s.0 s.2 same c.requires.inside.later) c.requires.local

pub load_again-again-requires-clause-from : goal.load_again-again-requires-clause-from
load_again-again-requires-clause-from g c = let s = c.reach_link-link.ensures.step in let p = c.args.pass.now in let q = c.reach_link-link.new.pass in
    node_still p q c.args.place c.args.from (keeps_else g.S.Shape.facts p q (origin c.same_node.result) c.args.place s.0 s.2 (ap (λ x. x.value.me.0) c.reach_link-link.ensures.pass.since) c.requires.inside.later) c.reach_link-link.ensures.pass.setup c.requires.elsewhere c.requires.from

pub returns-clause-reached : goal.returns-clause-reached
returns-clause-reached g c = let s = c.reach_link-link.ensures.step in let p = c.args.pass.now in let then = c.reach_link-link.new.pass in let q = c.load_again-again.new.pass in
    let same = ap (λ x. x.value.me.0) c.reach_link-link.ensures.pass.since in let goes_on = ap (λ x. x.value.me.0) c.load_again-again.ensures.pass.since in
    let told : ReachedLink g.S.Shape.facts hazard (view p) (origin c.args.from) 3 (reach_at p c.args.place) s.0 (view then) = subst (λ (x : Node). ReachedLink g.S.Shape.facts hazard (view p) (origin x) 3 (reach_at p c.args.place) s.0 (view then)) c.same_node.ensures s.2 in
    let clear : mark_bit c.reach_link-link.result ≡ 0 = ap mark_bit (sym c.link.view_is) ∙ sym (and_mask c.link.inside.flags 1) ∙ c.if-link-ne0.false in
    let to : c.reach_link-link.result.target ≡ Some c.in-Some.target = ap (λ (l : LinkParts). l.target) (sym c.link.view_is) ∙ c.in-Some.is in
    confirmed_reached g.S.Shape.facts p then q (origin c.args.from) c.args.place s.0 told same c.requires.inside.later c.in-Some.target c.load_again-again.result c.load_again-again.ensures.loaded goes_on c.requires.elsewhere c.requires.place
    c.generation_of-own.result c.reach_link-link.result s.1 clear to c.requires.local.words c.answer.result c.answer.ensures

pub returns-clause-keeps : goal.returns-clause-keeps
returns-clause-keeps g c = let s = c.reach_link-link.ensures.step in let p = c.args.pass.now in let then = c.reach_link-link.new.pass in
    keeps_then _ _ p then c.load_again-again.new.pass (keeps_else g.S.Shape.facts p then (origin c.same_node.result) c.args.place s.0 s.2 (ap (λ x. x.value.me.0) c.reach_link-link.ensures.pass.since) c.requires.inside.later) c.load_again-again.ensures.keeps

pub returns-clause-does : goal.returns-clause-does
returns-clause-does g c = let s = c.reach_link-link.ensures.step in let p = c.args.pass.now in let then = c.reach_link-link.new.pass in let q = c.load_again-again.new.pass in
    let same = ap (λ x. x.value.me.0) c.reach_link-link.ensures.pass.since in let goes_on = ap (λ x. x.value.me.0) c.load_again-again.ensures.pass.since in
    let told : ReachedLink g.S.Shape.facts hazard (view p) (origin c.args.from) 3 (reach_at p c.args.place) s.0 (view then) = subst (λ (x : Node). ReachedLink g.S.Shape.facts hazard (view p) (origin x) 3 (reach_at p c.args.place) s.0 (view then)) c.same_node.ensures s.2 in
    let clear : mark_bit c.reach_link-link.result ≡ 0 = ap mark_bit (sym c.link.view_is) ∙ sym (and_mask c.link.inside.flags 1) ∙ c.if-link-ne0.false in
    let to : c.reach_link-link.result.target ≡ Some c.in-Some.target = ap (λ (l : LinkParts). l.target) (sym c.link.view_is) ∙ c.in-Some.is in
    confirms (confirmed_steps g.S.Shape.facts p then q (origin c.args.from) c.args.place s.0 told same c.requires.inside.later c.in-Some.target c.load_again-again.result c.load_again-again.ensures.loaded goes_on c.requires.elsewhere c.requires.place
    c.generation_of-own.result c.reach_link-link.result s.1 clear to c.args.from c.args.field refl c.requires.field (c.generation_of-own.ensures.generation ∙ ap (λ (k : Setup). generation_at k (origin c.args.from)) (sym c.requires.pass.setup)) c.answer.result c.answer.ensures)
