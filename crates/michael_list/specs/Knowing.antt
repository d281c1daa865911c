-- What the walker of a list knows of the node at which it is, and of what it reached from there.
use Rattle.std.specs.Prelude.{◌≡◌, ℕ, ◌+◌, ◌<◌, true, false, Option, Some, None, Result, Ok, Err}
use Rattle.record_memory.specs.declared.books.View.{View}
use Rattle.row_words.specs.Refs.{LinkParts}
use Rattle.row_words.specs.Packing.{packed_link, IsLink}
use Rattle.record_rule.specs.Facts.{At as Stands}
use Rattle.record_rule.specs.Links.{note_in}
use Rattle.record_table.specs.declared.passes.Pass.{Pass}
use Rattle.record_table.specs.declared.nodes.Held.{Held}
use Rattle.record_table.specs.declared.nodes.Node.{Node}
use Rattle.record_table.specs.declared.nodes.Node.TheVariants.{Root, At}
use Rattle.record_table.specs.Handles.{view}
use Rattle.record_table.specs.Nodes.{origin}
use Rattle.reclaim_api.specs.Holds.{IsElsewhere}
use Rattle.list_facts.specs.Steps.{marked_with}
use Rattle.set_calls.specs.Knowing.{HasSeenKey}
use Rattle.list_calls.specs.Standing.{rank, StandsAt, StandsBefore, IsBeyond}
use Rattle.michael_list.specs.declared.spots.Spot.{Spot}
use Rattle.michael_list.specs.declared.spots.Spot.TheVariants.{Present, Absent}
use Rattle.michael_list.specs.declared.spots.Landing.{Landing}
use Rattle.michael_list.specs.declared.spots.Landing.TheVariants.{On, Stays, Restarts, Found}

-- from which node the next hop goes, or where the walk ended
abbrev pub IsNext : ℕ → Node → Landing → Result Node Spot → Type 0
IsNext root before (On at found) next = next ≡ Ok (At at)
IsNext root before Stays next = next ≡ Ok before
IsNext root before Restarts next = next ≡ Ok (Root root)
IsNext root before (Found spot) next = next ≡ Err spot

-- after how many updates a walk saw that its key is absent: when it reached the next record, or, where there is none, at its last look
abbrev pub absent_at : View → Option Held → ℕ
absent_at v None = v.own.updates_seen
absent_at v (Some next) = (note_in v.own.notes next.place).reached_at

-- after how many it saw the spot where it ended, if it did
abbrev pub shown_at : View → Spot → ℕ
shown_at v (Present before at link) = v.own.updates_seen
shown_at v (Absent before next) = absent_at v next

abbrev pub shown_of : View → Option Spot → Option ℕ
shown_of v None = None
shown_of v (Some spot) = Some (shown_at v spot)

abbrev pub shown_by : View → Landing → Option ℕ
shown_by v (On at found) = None
shown_by v Stays = None
shown_by v Restarts = None
shown_by v (Found spot) = Some (shown_at v spot)

module _ {S R : Type 0} where
  -- the link of what it holds there is known to be this one with a mark, which no step ends
  abbrev pub IsMarkNoted : Pass S R → Held → LinkParts → Type 0
  IsMarkNoted p at link = (generation : ℕ) × Stands (note_in (view p).own.notes at.place).words 0 (Some (packed_link generation (marked_with link)))

  -- and has reached the next record of the list, after so many updates; where that has a greater key, this one was seen to be absent then
  pub record HasReachedNext (p : Pass S R) (root key : ℕ) (before : Node) (at : Held) (seen : ℕ) : Type 0 where
    pub before_it : StandsBefore p root key before
    pub else : IsElsewhere (origin before) at.place
    pub stands : StandsAt p root (At at)
    pub rises : rank p before < rank p (At at)
    pub reached_at : (note_in (view p).own.notes at.place).reached_at ≡ seen
    pub gap : key + 1 < rank p (At at) → HasSeenKey p key false seen

  -- where a walk for the key ended, and what it saw of the key there
  abbrev pub IsSpot : Pass S R → ℕ → ℕ → Spot → Type 0
  IsSpot p root key (Present before at link) = StandsBefore p root key before × StandsAt p root (At at) × (rank p (At at) ≡ key + 1) × (link.flags ≡ 0) × IsLink link × HasSeenKey p key true (view p).own.updates_seen
  IsSpot p root key (Absent before next) = StandsBefore p root key before × IsBeyond p root key next × HasSeenKey p key false (absent_at (view p) next)

  -- where a hop from a node left it, which had this rank
  abbrev pub IsLanding : Pass S R → ℕ → ℕ → Node → ℕ → Landing → Type 0
  IsLanding p root key from low (On at found) = StandsBefore p root key (At at) × (rank p (At at) ≡ found + 1) × (low < found + 1)
  IsLanding p root key from low Stays = StandsBefore p root key from × (rank p from ≡ low)
  IsLanding p root key from low Restarts = Unit {0}
  IsLanding p root key from low (Found spot) = IsSpot p root key spot
