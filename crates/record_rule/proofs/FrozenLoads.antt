-- Loads of a link that a caller may follow though its node is marked, or was taken out.
use Rattle.std.proofs.Common.{◌≡◌, ℕ, ◌-◌, ◌≤◌, List, length, Bool, false, ◌&&◌, ◌⊎◌, sym, refl, ap, ◌∙◌, subst, ⊎_elim, inl, inr, Option, Some, None}
use Rattle.std.proofs.lemmas.Bool.{and_right}
use lib.ListN.{get_elem?}
use Rattle.atomic_table.specs.Table.{State}
use Rattle.atomic_table.proofs.Lists.{at_map}
use Rattle.record_memory.specs.declared.books.Setup.{Setup}
use Rattle.record_memory.specs.declared.books.View.{View}
use Rattle.record_memory.specs.declared.books.Guard.{Guard}
use mathlib.Core.Option.{some}
use Rattle.row_words.specs.Refs.{RefParts, LinkParts}
use Rattle.record_rule.specs.Records.{IsSetup}
use Rattle.record_rule.specs.Inputs.{ShapeCell, root, Start, start_of, Outline, shape_input, trace, scheme_input}
use Rattle.record_rule.specs.Facts.{of_held, At, at_root, known_near, Near, ShapeFacts, FitsNear, is_root, Reach, CoverFacts}
use Rattle.record_rule.specs.Laws.{LeadsTo, NodeIs, ShapeLaws, moment, with_guard, IsSafe, CoverLaws}
use Rattle.record_rule.specs.Frozen.{FrozenLaws}
use Rattle.record_rule.specs.World.{Rule}
use Rattle.record_rule.specs.Kinds.{Lawful}
use Rattle.record_rule.specs.Links.{Origin, from_root, from_place, note_in, near_of, Holds}
use Rattle.record_rule.specs.FrozenLinks.{KeepsOf, MayFollow, by_walks, by_kept, FollowedLink}
use Rattle.record_rule.proofs.Steps.{before, given}
use Rattle.record_rule.proofs.Waiting.{seen_cell}
use Rattle.record_rule.proofs.HeldMoves.{IsThereFrom}
use Rattle.record_rule.proofs.Nodes.{noted_there}
use Rattle.record_rule.proofs.LinkLoads.{own_known}
use Rattle.record_rule.proofs.Reaches.{linked_reachable, linked_from, comes_to, again_by, IsReachStep, n, link, node, guard_then, may_use, guard_at, reached_target}

-- a root's cell is one
root_cell : (s : ShapeFacts) (cells : List ShapeCell) (r i generation m : ℕ) (body : List ℕ) (near : Near) → near ≡ at_root r → FitsNear s cells near i generation body m → At cells i (root generation body m)
root_cell s cells r _ _ _ _ _ e (is_root i generation m body at) = at
root_cell s cells r _ _ _ _ _ e fits = let none : ⊥ = cc in absurd none

-- the place of a record in the list of those taken out, at this number or later
abbrev IsTakenFrom : List RefParts → ℕ → RefParts → Type 0
IsTakenFrom taken_out start t = (k : ℕ) × (start ≤ k) × At taken_out k t

module _ (shape : ShapeFacts) (cover : CoverFacts) (shaped : ShapeLaws shape) (covering : CoverLaws cover) (frozen : FrozenLaws cover) (setup : Setup) (is_setup : IsSetup setup) (id word f : ℕ) (v : View) (o : Origin) (q : Reach) (a : IsReachStep cover setup word f v o q)
    (may : MayFollow shape v o f q.first) where
  module _ (s : State (Unit {0}) View) (u : Rule shape cover setup s) (at : get_elem? s.views id ≡ some v) where
    abbrev x : Outline
    x = before shape cover setup s u

    -- the link that the load finds, in its node, and the guard that has reached this
    abbrev found : LinkParts
    found = link shape cover shaped covering setup is_setup id word f v o q a s u at

    abbrev then : Option RefParts → Guard
    then t = guard_then shape cover shaped covering setup is_setup id word f v o q a s u at t

    -- the node as the laws of a set take it
    abbrev on : NodeIs shape x.shapes (near_of v o) f found
    on = node shape cover shaped covering setup is_setup id word f v o q a s u at

    -- the caller's guard, and all else that the laws of a reclaimer may use
    abbrev guarded : At x.guards v.own.caller v.own.guard
    guarded = guard_at shape cover shaped covering setup is_setup id word f v o q a s u at

    abbrev safely : IsSafe setup (scheme_input x)
    safely = may_use shape cover shaped covering setup is_setup id word f v o q a s u at

    -- a node's kept items are so
    kept_so : (p : Origin) (kept : List ℕ) → Holds v p → KeepsOf v p kept → shape.knows setup (shape_input x) u.updates (start_of v.own.guard) (known_near (near_of v p) kept)
    kept_so (from_root m) kept hold is = (own_known shape cover setup s u id v at a.present).root m kept is
    kept_so (from_place p r) kept hold is = let there = noted_there shape cover setup is_setup s u id v at a.present (from_place p r) hold p r refl in
        subst (λ (z : List ℕ). shape.knows setup (shape_input x) u.updates (start_of v.own.guard) (of_held r z)) (sym is) ((own_known shape cover setup s u id v at a.present).held p r (note_in v.own.notes p) hold there.1)

    -- what the link leads to is linked, or was taken out behind the start of the caller's guard, which isn't now
    abbrev IsLedTo : RefParts → Type 0
    IsLedTo t = LeadsTo x.shapes t ⊎ ((q.first ≡ false) × IsTakenFrom u.taken_out v.own.guard.start_taken_out t)

    led : (t : RefParts) → found.target ≡ Some t → IsLedTo t
    led t e = by may
      where
        by : MayFollow shape v o f q.first → IsLedTo t
        by (by_walks m is leads) = let near : near_of v o ≡ at_root m = ap (near_of v) is in
            inl (shaped.walks setup (shape_input x) (trace x) (given shape cover setup s u) on.body t (inl (on.index, on.generation, on.marked, root_cell shape x.shapes m on.index on.generation on.marked on.body (near_of v o) near on.fits))
            record { field = f; on = leads on.body; target = ap (λ (z : LinkParts). z.target) on.word ∙ e })
        by (by_kept kept keeps allowed late) = ⊎_elim inl (λ z. inr (late, z)) (shaped.follows setup (shape_input x) (trace x) (near_of v o) f found (start_of v.own.guard) v.own.caller kept t (given shape cover setup s u) on
            (at_map start_of x.guards v.own.caller v.own.guard guarded)
            (λ k generation m body is. (n shape cover shaped covering setup is_setup id word f v o q a s u at).behind k generation m body is) (kept_so o kept a.hold keeps)
            (subst (λ (z : Setup). shape.may_hold_frozen z (near_of v o) kept f) a.same allowed) e)

    -- a guard that isn't started by the load started when it did
    same_start : (t : Option RefParts) → q.first ≡ false → (then t).start_taken_out ≡ v.own.guard.start_taken_out
    same_start t late = let b : Bool = cover.begins_loading && q.first in let m = moment (scheme_input x) (length u.updates) in
        ap (λ (z : Start). z.taken_out) (again_by b m q.step v.own.guard (then t) (covering.reached m v.own.guard q t a.may).start (and_right cover.begins_loading q.first late))

    -- so it is there for that guard
    stands : (t : RefParts) → IsLedTo t → IsThereFrom x.shapes u.taken_out (then (Some t)).start_taken_out t
    stands t y = ⊎_elim (λ lead. linked_from shape cover shaped setup s u (then (Some t)).start_taken_out t lead) (λ z. let k = z.1 in
        let is = frozen.stands setup (scheme_input x) v.own.caller k.0 v.own.guard q t safely u.parts.scheme guarded a.may z.0 k.1 k.2 in
        let c = seen_cell u.records (t.index - 1) v.own.guard.start_taken_out t.generation is.0 is.2 is.3 in
        subst (λ (n : ℕ). IsThereFrom x.shapes u.taken_out n t) (sym (same_start (Some t) z.0)) (record { body = c.0; marked = c.1; some_index = is.1; at = c.2; was_linked = inr k })) y

    -- and the reclaimer allows it
    covered : (t : Option RefParts) → ((w : RefParts) → t ≡ Some w → IsLedTo w) → cover.covered setup (with_guard (scheme_input x) v.own.caller (then t))
    covered None leads = covering.reaches setup (scheme_input x) v.own.caller (length u.updates) v.own.guard q None safely u.parts.scheme guarded a.may tt
    covered (Some t) leads = ⊎_elim
        (λ lead. covering.reaches setup (scheme_input x) v.own.caller (length u.updates) v.own.guard q (Some t) safely u.parts.scheme guarded a.may (linked_reachable shape cover shaped setup s u t lead))
        (λ z. let k = z.1 in frozen.freezes setup (scheme_input x) v.own.caller k.0 (length u.updates) v.own.guard q t safely u.parts.scheme guarded a.may z.0 k.1 k.2) (leads t refl)

  -- A caller may load such a link and then hold what it leads to, linked or taken out
  pub follows_link : Lawful (Rule shape cover setup) id v word (λ n. n) (λ n w. FollowedLink shape cover v o f q n w)
  follows_link s u at = let l : LinkParts = found s u at in
      reached_target shape cover shaped covering setup is_setup id word f v o q a s u at l.target
      (comes_to shape cover shaped setup s u l l.target (then s u at l.target).start_taken_out
      (λ w e. (e, subst (λ (z : Option RefParts). IsThereFrom (before shape cover setup s u).shapes u.taken_out (then s u at z).start_taken_out w) (sym e) (stands s u at w (led s u at w e)))))
      (covered s u at l.target (led s u at))
