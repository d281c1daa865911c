use Rattle.std.proofs.Common.{ℕ, ◌+◌, ◌%◌, ◌<◌, Some, sym, ap, ◌∙◌, subst, arith}
use Rattle.std.proofs.lemmas.Bool.{both_ways}
use Rattle.row_words.specs.Refs.{RefParts, LinkParts}
use Rattle.record_table.specs.Closing.{closed_setup}
use Rattle.key_sums.specs.Sums.{closed_rows}
use Rattle.key_sums.specs.Walking.{IsAt, Counted, left_behind}
use Rattle.key_sums.proofs.ClosedRows.{rows_long}
use Rattle.key_sums.proofs.WalkSteps as walk
use Rattle.key_sums.proofs.closing_walk.add_path.Goals as goal

pub loop-link-init : goal.loop-link-init
loop-link-init c =
    let lists = c.requires.lists.2 in (
      0,
      subst (IsAt (closed_setup c.args.closed.now) (closed_rows c.args.closed.now) c.args.root 0) (sym c.link_in-link.ensures.link) (walk.starts lists.paths c.args.root c.requires.root),
      c.requires.before,
    )

pub link_in-link-requires-in-Some-clause-row : goal.link_in-link-requires-in-Some-clause-row
link_in-link-requires-in-Some-clause-row c =
    let lists = c.requires.lists.2 in
    let e = ap (λ (z : LinkParts). z.target) (sym c.link.view_is) ∙ c.in-Some.is ∙ ap (λ (z : RefParts). Some z) (sym c.record.view_is) in
    omega (arith, (walk.names lists.paths c.loop-link.invariant.1 _ e).within, rows_long lists.listed)

pub key_in-sum-requires : goal.key_in-sum-requires
key_in-sum-requires c =
    let lists = c.requires.lists.2 in
    let e = ap (λ (z : LinkParts). z.target) (sym c.link.view_is) ∙ c.in-Some.is ∙ ap (λ (z : RefParts). Some z) (sym c.record.view_is) in
    record { row = omega (arith, (walk.names lists.paths c.loop-link.invariant.1 _ e).within, rows_long lists.listed) }

pub loop-link-smaller-then-not-is_marked : goal.loop-link-smaller-then-not-is_marked
loop-link-smaller-then-not-is_marked c =
    let lists = c.requires.lists.2 in
    let e = ap (λ (z : LinkParts). z.target) (sym c.link.view_is) ∙ c.in-Some.is ∙ ap (λ (z : RefParts). Some z) (sym c.record.view_is) in
    subst (λ (l : LinkParts). left_behind (closed_rows c.args.closed.now) l.target < left_behind (closed_rows c.args.closed.now) c.loop-link.link.target)
    (sym c.link_in-link-in-Some.ensures.link) (walk.less lists.paths c.loop-link.invariant.1 _ e)

pub loop-link-preserved-then-not-is_marked : goal.loop-link-preserved-then-not-is_marked
loop-link-preserved-then-not-is_marked c =
    let lists = c.requires.lists.2 in
    let w = c.loop-link.invariant in
    let e = ap (λ (z : LinkParts). z.target) (sym c.link.view_is) ∙ c.in-Some.is ∙ ap (λ (z : RefParts). Some z) (sym c.record.view_is) in (
      w.0 + 1,
      subst (IsAt (closed_setup c.args.closed.now) (closed_rows c.args.closed.now) c.args.root (w.0 + 1)) (sym c.link_in-link-in-Some.ensures.link) (walk.goes lists.paths w.1 _ e),
      subst (λ (k : ℕ). Counted (closed_setup c.args.closed.now) (closed_rows c.args.closed.now) c.args.root (w.0 + 1) (c.loop-link.size + 1) (c.loop-link.sum + k)) (sym c.key_in-sum.ensures.key)
          (walk.counts lists.paths w.1 _ e w.2 (λ mark. both_ways _ c.if-not-is_marked.true (c.is_marked.ensures.1 (ap (λ (z : LinkParts). z.flags % 2) c.link_in-link-in-Some.ensures.link ∙ mark)))),
    )

pub loop-link-smaller : goal.loop-link-smaller
loop-link-smaller c =
    let lists = c.requires.lists.2 in
    let e = ap (λ (z : LinkParts). z.target) (sym c.link.view_is) ∙ c.in-Some.is ∙ ap (λ (z : RefParts). Some z) (sym c.record.view_is) in
    subst (λ (l : LinkParts). left_behind (closed_rows c.args.closed.now) l.target < left_behind (closed_rows c.args.closed.now) c.loop-link.link.target)
    (sym c.link_in-link-in-Some.ensures.link) (walk.less lists.paths c.loop-link.invariant.1 _ e)

pub loop-link-preserved : goal.loop-link-preserved
loop-link-preserved c =
    let lists = c.requires.lists.2 in
    let w = c.loop-link.invariant in
    let e = ap (λ (z : LinkParts). z.target) (sym c.link.view_is) ∙ c.in-Some.is ∙ ap (λ (z : RefParts). Some z) (sym c.record.view_is) in (
      w.0 + 1,
      subst (IsAt (closed_setup c.args.closed.now) (closed_rows c.args.closed.now) c.args.root (w.0 + 1)) (sym c.link_in-link-in-Some.ensures.link) (walk.goes lists.paths w.1 _ e),
      walk.skips lists.paths w.1 _ e w.2 (ap (λ (z : LinkParts). z.flags % 2) (sym c.link_in-link-in-Some.ensures.link) ∙ c.is_marked.ensures.0 c.if-not-is_marked.false),
    )

pub returns : goal.returns
returns c =
    let lists = c.requires.lists.2 in
    let w = c.loop-link.invariant in
    record { counted = walk.ends lists.paths w.1 (ap (λ (z : LinkParts). z.target) (sym c.link.view_is) ∙ c.in_default.is) w.2 }
