-- Loads of links that a caller may follow though their node is marked, or was taken out.
use Rattle.std.specs.Prelude.{◌≡◌, ℕ, List, Bool, true, false}
use Rattle.record_memory.specs.declared.books.View.{View}
use Rattle.row_words.specs.Packing.{link_in}
use Rattle.record_rule.specs.Facts.{At, Reach, ShapeFacts, CoverFacts}
use Rattle.record_rule.specs.Links.{Origin, from_root, from_place, note_in, near_of, ReachedTarget}

-- a caller keeps this of its node
abbrev pub KeepsOf : View → Origin → List ℕ → Type 0
KeepsOf v (from_root n) kept = At v.own.root_notes n kept
KeepsOf v (from_place p r) kept = kept ≡ (note_in v.own.notes p).kept

-- A caller may follow word f of its node to whatever it leads to, by a load that is its guard's first one or not
pub data MayFollow (s : ShapeFacts) (v : View) (o : Origin) (f : ℕ) (first : Bool) : Type 0 where
  -- each walk goes on along this word of a root
  by_walks : (n : ℕ) → o ≡ from_root n → ((body : List ℕ) → s.leads f body ≡ true) → MayFollow s v o f first
  -- the set allows it by what the caller keeps of the node, since its guard started
  by_kept : (kept : List ℕ) → KeepsOf v o kept → s.may_hold_frozen v.setup (near_of v o) kept f → first ≡ false → MayFollow s v o f first

-- A link is loaded to reach its target, be the node marked or not
abbrev pub FollowedLink : ShapeFacts → CoverFacts → View → Origin → ℕ → Reach → ℕ → View → Type 0
FollowedLink s c v o f q n w = ReachedTarget s c v o f q (link_in n).target n w
