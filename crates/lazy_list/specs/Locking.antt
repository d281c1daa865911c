-- What a step that locks a link, or takes a lock off, leaves.
use Rattle.std.specs.Prelude.{◌≡◌, ◌∷◌, Option, Some}
use Rattle.row_words.specs.Refs.{RefParts, LinkParts}
use Rattle.row_words.specs.Packing.{packed_link}
use Rattle.record_memory.specs.declared.books.View.{View}
use Rattle.record_rule.specs.Facts.{At as Stands}
use Rattle.record_rule.specs.Links.{Origin, note_in, locked_word}
use Rattle.record_rule.specs.LockedLinks.{HasLocked}
use Rattle.record_table.specs.declared.passes.Pass.{Pass}
use Rattle.record_table.specs.declared.nodes.Held.{Held}
use Rattle.record_table.specs.Handles.{view, IsSamePass}
use Rattle.reclaim_api.specs.declared.scheme.Scheme.{Ghosts as OfScheme}
use Rattle.alloc_api.specs.declared.Allocator.{Ghosts as OfAllocator}
use Rattle.pool.specs.declared.Pool.{Ghosts as OfPool}
use Rattle.manager.specs.declared.types.Guard.{Guard}
use Rattle.list_facts.specs.Steps.{marked_with}

-- the same link with the lock alone, and without flags
abbrev pub locked_with : LinkParts → LinkParts
locked_with link = record link { flags = 2 }

abbrev pub unlocked : LinkParts → LinkParts
unlocked link = record link { flags = 0 }

-- a link without flags to this record, or to none, and a locked one
abbrev pub link_to : Option RefParts → LinkParts
link_to target = record { flags = 0; target = target }

abbrev pub locked_to : Option RefParts → LinkParts
locked_to target = record { flags = 2; target = target }

-- the node's word is one more that the caller has locked, with this link
pub record Locks (v w : View) (o : Origin) (link : LinkParts) : Type 0 where
  pub has : HasLocked w o 3 (locked_with link)
  pub locks : w.own.locks ≡ locked_word v.setup o 3 (locked_with link) ∷ v.own.locks

-- the link of what it holds there is known to be this one with a mark, which no step ends
abbrev pub IsMarkNoted : {S R : Type 0} → Pass S R → Held → LinkParts → Type 0
IsMarkNoted p at link = Stands (note_in (view p).own.notes at.place).words 0 (Some (packed_link at.target.generation (marked_with link)))

module _ {S R L A P : Type 0} {r : OfScheme R L} {a : OfAllocator A} {p : OfPool P} where
  -- the same guard after calls of it, whichever words its caller has locked
  pub record IsGuardStill (g h : Guard S R A P L r a p) : Type 0 where
    pub manager : h.manager.now ≡ g.manager.now
    pub caller : h.caller.ghost_name ≡ g.caller.ghost_name
    pub pass : IsSamePass g.caller.now.pass h.caller.now.pass
