-- Locks that are put on links and taken off, and what a locked link's holder may do.
use Rattle.std.proofs.Common.{◌≡◌, ℕ, ◌+◌, ◌-◌, ◌/◌, ◌%◌, List, true, eqb, Option, Some, None, inl, inr, sym, refl, ap, ◌∙◌, subst, arith}
use Rattle.set_model.specs.declared.calls.Call.{Call}
use Rattle.set_model.specs.declared.calls.Call.TheVariants.{Remove}
use Rattle.record_memory.specs.declared.steps.StepKind.{StepKind}
use Rattle.record_memory.specs.declared.books.LockedWord.{LockedWord}
use Rattle.record_memory.specs.declared.books.Setup.{Setup}
use Rattle.record_memory.specs.declared.books.View.{View}
use Rattle.row_words.specs.Refs.{LinkParts}
use Rattle.row_words.specs.Packing.{link_in, packed_link, IsLink}
use Rattle.row_words.proofs.Packed.{link_in-packed_link}
use Rattle.record_rule.specs.Facts.{At as Stands, Near, mark_bit, HasLock, link_at}
use Rattle.record_rule.specs.Links.{Origin, near_of, note_in, ExchangedLink, LeftLink, locks_after}
use Rattle.record_rule.specs.LockedLinks.{IsUnlocked}
use Rattle.record_rule.proofs.KnownLocks.{locked_then}
use Rattle.record_table.specs.declared.passes.Pass.{Pass}
use Rattle.record_table.specs.declared.nodes.Held.{Held}
use Rattle.record_table.specs.declared.nodes.Node.TheVariants.{At}
use Rattle.record_table.specs.Handles.{view}
use Rattle.record_table.specs.Nodes.{origin_held}
use Rattle.reclaim_api.proofs.Noting.{left_notes}
use Rattle.lazy_facts.specs.Lazy.{lazy, MayTurn}
use Rattle.list_facts.specs.Steps.{list_settled, marked_with}
use Rattle.list_calls.specs.Standing.{rank, StandsAt}
use Rattle.lazy_list.specs.Locking.{locked_with, unlocked, Locks, IsMarkNoted}

-- a link without flags hasn't the lock
pub no_lock : (link : LinkParts) → link.flags ≡ 0 → IsUnlocked lazy 3 link
no_lock link clear lockable e = let z : link.flags / 2 % 2 ≡ 1 = e in omega (arith, clear)

-- it may be locked
pub may_lock : (setup : Setup) (near : Near) (link new : LinkParts) → link.flags ≡ 0 → new ≡ locked_with link → MayTurn setup near 3 link new None
may_lock setup near link new clear is = inl (refl, clear, is, refl)

-- a lock may be taken off
pub may_unlock : (setup : Setup) (near : Near) (link new : LinkParts) → new ≡ unlocked link → MayTurn setup near 3 (locked_with link) new None
may_unlock setup near link new is = inr (inl (refl, refl, is, refl))

-- the lock of a record may become its mark
pub may_mark : {S R : Type 0} (p : Pass S R) (root : ℕ) (at : Held) → StandsAt p root (At at) → (setup : Setup) (key : ℕ) (link new : LinkParts) → rank p (At at) ≡ key + 1 → new ≡ marked_with link → MayTurn setup (near_of (view p) (origin_held at)) 3 (locked_with link) new (Some (Remove key))
may_mark p root at stands setup key link new rank_is is =
    inr (inr (refl, tt, stands.keyed, refl, is, ap (λ k. Some (Remove k)) (let z : key ≡ rank p (At at) - 1 = omega arith in z)))

-- an exchange that put the lock on has the word locked
pub locks_then : (v w : View) (o : Origin) (link : LinkParts) → ExchangedLink lazy v o 3 link (locked_with link) None w → IsLink (locked_with link) → w.own.locks ≡ locks_after lazy v o 3 (locked_with link) → Locks v w o link
locks_then v w o link told in_range locks = record { has = locked_then lazy v w o 3 link (locked_with link) None told refl refl in_range; locks = locks }

-- a link with the mark alone hasn't the lock, nor has one without flags
pub mark_unlocked : (link new : LinkParts) → new ≡ marked_with link → ¬ HasLock new
mark_unlocked link new is = subst (λ (l : LinkParts). ¬ HasLock l) (sym is) (λ e. omega (arith, e))

pub clean_unlocked : (link new : LinkParts) → new ≡ unlocked link → ¬ HasLock new
clean_unlocked link new is = subst (λ (l : LinkParts). ¬ HasLock l) (sym is) (λ e. omega (arith, e))

-- the mark that a record's link was left with is known from then on
pub mark_left : {S R : Type 0} (p q : Pass S R) (root : ℕ) (at : Held) → StandsAt p root (At at) → (link old new : LinkParts) (call : Option Call) {kind : StepKind} {locks : List LockedWord} → IsLink new → new ≡ marked_with link → LeftLink lazy (view p) kind (origin_held at) 3 old new call locks (view q) → IsMarkNoted q at link
mark_left p q root at stands link old new call is_link is told =
    let left : link_at told.body 3 ≡ new = ap link_in told.word ∙ link_in-packed_link at.target.generation new is_link in
    let settled : list_settled 3 told.body ≡ true = ap (λ (l : LinkParts). eqb (mark_bit l) 1) (left ∙ is) in
    subst (λ (l : LinkParts). Stands (note_in (view q).own.notes at.place).words 0 (Some (packed_link at.target.generation l))) is
    (left_notes lazy (view p) (view q) at.place at.target old new call told settled 1 stands.keyed.0 stands.keyed.1)
