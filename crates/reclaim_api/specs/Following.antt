-- What following a link shows, be its node marked or not, and by which step.
use Rattle.std.specs.Prelude.{◌≡◌, ℕ, ◌≤◌, length, [], ◌∷◌, ◌++◌, Option, Some, None}
use Rattle.record_memory.specs.declared.books.Book.{Book}
use Rattle.record_memory.specs.declared.books.View.{View}
use Rattle.row_words.specs.Refs.{RefParts, LinkParts}
use Rattle.row_words.specs.Packing.{link_in, IsLink}
use Rattle.record_rule.specs.Facts.{ShapeFacts}
use Rattle.record_rule.specs.Guards.{holding}
use Rattle.record_rule.specs.Inputs.{start_of}
use Rattle.record_rule.specs.Links.{Origin}
use Rattle.record_table.specs.declared.nodes.Node.{Node}
use Rattle.record_table.specs.declared.passes.Pass.{Pass}
use Rattle.record_table.specs.Handles.{view, since}
use Rattle.record_table.specs.Nodes.{HoldsThere}
use Rattle.reclaim_api.specs.Holds.{HasSeenTarget, HoldsNothing}
use Rattle.reclaim_api.specs.LinkLoads.{link_load}
use Rattle.reclaim_api.specs.declared.following.Reached.{Reached}
use Rattle.reclaim_api.specs.declared.following.Reached.TheVariants.{Null, Held}

-- a caller's guard holds this at the place
abbrev pub holds_at : View → ℕ → Option RefParts → View
holds_at v place t = record v { own = record v.own { guard = holding v.own.guard place t } }

-- the link that was found
abbrev pub found_link : Reached → LinkParts
found_link (Null flags) = record { flags = flags; target = None }
found_link (Held h flags) = record { flags = flags; target = Some h.target }

module _ {S R : Type 0} where
  -- what it leads to is held at this place, which holds nothing where it leads nowhere
  abbrev pub HoldsReached : ℕ → Reached → Pass S R → Type 0
  HoldsReached place (Null flags) q = HoldsNothing place q
  HoldsReached place (Held h flags) q = HoldsThere q h × (h.place ≡ place)

  -- what an answer shows
  pub record HasFollowed (s : ShapeFacts) (place : ℕ) (o : Origin) (p : Pass S R) (r : Reached) (q : Pass S R) : Type 0 where
    pub holds : HoldsReached place r q
    pub seen : HasSeenTarget s place o p q (found_link r).target (found_link r)
    pub in_range : IsLink (found_link r)
    -- by the start of the guard that the pass knew
    pub start : start_of seen.at_load.own.guard ≡ start_of (view p).own.guard
    -- the guard started behind all that the caller knew to come before when its operation began
    pub behind : length (since p).front ≤ (view q).own.guard.start_updates

-- it is one load of the link, answered by what it found
pub record FollowsByLoad (from : Node) (field : ℕ) (b : Book) (r : Reached) (c : Book) : Type 0 where
  pub found : ℕ
  pub steps : c.steps ≡ b.steps ++ link_load b from field found ∷ []
  pub answer : link_in found ≡ found_link r
