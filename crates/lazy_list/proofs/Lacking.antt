-- Where an absence is placed, as the grammar of the calls says it.
use Rattle.std.proofs.Common.{◌≡◌, ℕ, ◌+◌, ◌-◌, ◌%◌, [], ◌∷◌, ◌++◌, max, List, Option, Some, sym, subst, arith}
use native.Mathlib.Decide.{ℕ_discrete}
use Rattle.set_model.specs.declared.calls.Update.{Update}
use Rattle.record_memory.specs.declared.books.Guard.{Guard}
use Rattle.row_words.specs.Refs.{LinkParts}
use Rattle.record_rule.specs.Facts.{HasMark}
use Rattle.record_table.specs.declared.passes.Pass.{Pass}
use Rattle.record_table.specs.declared.nodes.Held.{Held}
use Rattle.record_table.specs.declared.nodes.Node.{Node}
use Rattle.record_table.specs.declared.nodes.Node.TheVariants.{At}
use Rattle.record_table.specs.Handles.{view}
use Rattle.record_pieces.specs.Events.{Event, looked}
use Rattle.list_calls.specs.Records.{target_of}
use Rattle.list_calls.specs.Standing.{rank}
use Rattle.lazy_list.specs.declared.spots.Spot.TheVariants.{Present, Absent}
use Rattle.lazy_list.specs.Places.{IsRemovalAt, IsPlacedBy}
use Rattle.lazy_list.specs.Walks.{Finds}
use Rattle.lazy_list.specs.Pieces.{Lacks, by_gap, by_marked_gap, by_mark}

-- q is the pass once the call was placed, which leaves the guard and what was seen
module _ {S R : Type 0} (p q : Pass S R) (root key : ℕ) where
  -- behind a node, where a walk ended
  pub gap_lacks : (shown : ℕ) {hops flags : ℕ} {before : Node} {next : Option Held} {fs : List Event} → Finds key root hops (rank p before) (Some (Absent before flags next)) (Some (view p).own.updates_seen) fs
      → IsPlacedBy (view p) (rank p before - 1) (record { flags = flags; target = target_of next }) shown → (view q).own.guard ≡ (view p).own.guard → (view q).seen_updates ≡ (view p).seen_updates
      → Lacks root key (view q).own.guard.start_updates (view q).seen_updates hops shown fs
  gap_lacks shown {hops} {flags} {before} {next} {fs} finds placed guard seen = by (ℕ_discrete (flags % 2) 1)
    where
      by : Dec (flags % 2 ≡ 1) → Lacks root key (view q).own.guard.start_updates (view q).seen_updates hops shown fs
      by (yes mark) = let at = placed.by_mark mark in
          subst (λ (z : ℕ × Guard × List Update). Lacks root key z.1.start_updates z.2 hops z.0 fs) (λ k. (sym at.2 k, sym guard k, sym seen k)) (by_marked_gap at.0 finds mark at.1)
      by (no clear) = subst (λ k. Lacks root key (view q).own.guard.start_updates (view q).seen_updates hops k fs) (sym (placed.by_look clear)) (by_gap finds clear)

  -- by the record with the key, whose link was loaded
  pub mark_lacks : (m : ℕ) (at : Held) (link : LinkParts) (then : ℕ) {hops low seen flags : ℕ} {before : Node} {fs : List Event} → Finds key root hops low (Some (Present before flags at)) (Some seen) fs → HasMark link
      → IsRemovalAt (view p).seen_updates m (rank p (At at) - 1) → rank p (At at) ≡ key + 1 → (view q).own.guard ≡ (view p).own.guard → (view q).seen_updates ≡ (view p).seen_updates
      → Lacks root key (view q).own.guard.start_updates (view q).seen_updates hops (max (view p).own.guard.start_updates m) (fs ++ looked (At at) 3 link then ∷ [])
  mark_lacks m at link then {hops} {fs = fs} finds mark removal rank_is guard_is seen_is =
      subst (λ (z : Guard × List Update). Lacks root key z.0.start_updates z.1 hops (max (view p).own.guard.start_updates m) (fs ++ looked (At at) 3 link then ∷ [])) (λ k. (sym guard_is k, sym seen_is k))
      (by_mark m link then finds mark (subst (IsRemovalAt (view p).seen_updates m) (let z : rank p (At at) - 1 ≡ key = omega (arith, rank_is) in z) removal))
