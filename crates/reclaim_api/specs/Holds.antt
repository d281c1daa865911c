-- What a try to hold a link's target shows, and what a call leaves of what is held and known.
use Rattle.std.specs.Prelude.{◌≡◌, ◌≢◌, ℕ, ◌≤◌, ◌⊎◌, List, length, Option, Some, None}
use Rattle.set_model.specs.declared.calls.Update.{Update}
use Rattle.record_memory.specs.declared.books.View.{View}
use Rattle.row_words.specs.Refs.{RefParts, LinkParts}
use Rattle.row_words.specs.Packing.{link_in}
use Rattle.record_rule.specs.Facts.{At, ShapeFacts, mark_bit}
use Rattle.record_rule.specs.World.{StartsWith}
use Rattle.record_rule.specs.Links.{Origin, from_root, from_place, near_of, Saw, AreWhole, IsFound, target_of, note_in, note_of}
use Rattle.record_table.specs.declared.passes.Pass.{Pass}
use Rattle.record_table.specs.Handles.{view}
use Rattle.record_table.specs.declared.nodes.Held.{Held as HeldThere}
use Rattle.record_table.specs.Nodes.{HasStarted, HoldsThere}
use Rattle.reclaim_api.specs.declared.holding.Holding.{Holding}
use Rattle.reclaim_api.specs.declared.holding.Holding.TheVariants.{Null, Held, Marked, Moved}

-- the node isn't what is held at this place
abbrev pub IsElsewhere : Origin → ℕ → Type 0
IsElsewhere (from_root n) place = Unit {0}
IsElsewhere (from_place p r) place = place ≢ p

module _ {S R : Type 0} where
  -- Of what it holds and knows it keeps this much: what it holds at these places, and these of the words that it noted there
  pub record KeepsSome (places : ℕ → Type 0) (words : ℕ → ℕ → Type 0) (p q : Pass S R) : Type 0 where
    pub holds : (h : HeldThere) → places h.place → HoldsThere p h → HoldsThere q h
    pub notes : (place f n : ℕ) → words place f → At (note_in (view p).own.notes place).words f (Some n) → At (note_in (view q).own.notes place).words f (Some n)
    -- a note has as many words as before
    pub long : (place : ℕ) → places place → length (note_in (view q).own.notes place).words ≡ length (note_in (view p).own.notes place).words
    -- and was reached when it was
    pub reached : (place : ℕ) → places place → (note_in (view q).own.notes place).reached_at ≡ (note_in (view p).own.notes place).reached_at
    -- what it has seen of the updates begins what it has seen now
    pub noted : StartsWith (view q).seen_updates (view p).seen_updates
    -- a guard that started goes on
    pub goes_on : HasStarted p → HasStarted q × ((view q).own.guard.start_updates ≡ (view p).own.guard.start_updates)

  -- all of it
  abbrev pub KeepsHeld : Pass S R → Pass S R → Type 0
  KeepsHeld p q = KeepsSome (λ place. Unit {0}) (λ place f. Unit {0}) p q

  -- all but what it holds and knows at this place
  abbrev pub KeepsElse : ℕ → Pass S R → Pass S R → Type 0
  KeepsElse place p q = KeepsSome (λ other. other ≢ place) (λ other f. other ≢ place) p q

  -- all but what it noted of this node's link, the first word of a note, which a step has left anew
  abbrev pub KeepsButLink : Origin → Pass S R → Pass S R → Type 0
  KeepsButLink o p q = KeepsSome (λ place. Unit {0}) (λ place f. (f ≢ 0) ⊎ IsElsewhere o place) p q

  -- The last load of the link saw this, and what is known of the place is a note of t, which the link led to, if anything
  pub record HasSeenTarget (s : ShapeFacts) (place : ℕ) (o : Origin) (p q : Pass S R) (t : Option RefParts) (link : LinkParts) : Type 0 where
    pub word : ℕ
    pub link_is : link_in word ≡ link
    pub updates : List Update
    pub taken_out : List RefParts
    pub whole : AreWhole (view p) updates taken_out
    pub target : Option (List ℕ)
    -- which was found there
    pub found : IsFound t target
    -- as the pass knew the node at that load: a reclaimer may load the link twice, and its guard may start with the first of the loads
    pub at_load : View
    pub setup : at_load.setup ≡ (view p).setup
    pub near : near_of at_load o ≡ near_of (view p) o
    pub saw : Saw s at_load o 3 word target updates
    -- so many updates had taken effect, and the pass noted them
    pub noted : StartsWith (view q).seen_updates updates
    pub seen : (view q).own.updates_seen ≡ length updates
    pub note : note_in (view q).own.notes place ≡ note_of s target (length updates)
    -- the guard has started, no later than with this load
    pub started : HasStarted q
    pub since_start : (view q).own.guard.start_updates ≤ length updates

  -- of the link's target, unless the node has a mark
  abbrev pub HasSeen : ShapeFacts → ℕ → Origin → Pass S R → Pass S R → LinkParts → Type 0
  HasSeen s place o p q link = HasSeenTarget s place o p q (target_of link) link

  -- it holds nothing at this place
  abbrev pub HoldsNothing : ℕ → Pass S R → Type 0
  HoldsNothing place q = (r : RefParts) → ¬ At (view q).own.guard.holds place (Some r)

  -- what an answer shows; the place holds nothing but what was answered to be held there
  abbrev pub HasReached : ShapeFacts → ℕ → Origin → Pass S R → Holding → Pass S R → Type 0
  HasReached s place o p Null q = (link : LinkParts) × (mark_bit link ≡ 0) × (link.target ≡ None) × HasSeen s place o p q link × HoldsNothing place q
  HasReached s place o p (Held h) q = HoldsThere q h × (h.place ≡ place) × ((link : LinkParts) × (mark_bit link ≡ 0) × (link.target ≡ Some h.target) × HasSeen s place o p q link)
  HasReached s place o p (Marked link) q = (mark_bit link ≡ 1) × HasSeen s place o p q link × HoldsNothing place q
  HasReached s place o p (Moved n) q = HoldsNothing place q
