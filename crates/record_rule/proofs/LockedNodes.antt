-- The lock on a link of a step's node: what the caller that has it knows, and which locks there are once the step left another link.
use Rattle.std.proofs.Common.{◌≡◌, ℕ, ◌+◌, ◌-◌, ◌<◌, ◌≤◌, List, ◌∷◌, map, length, get_or, drop, set, Bool, true, false, cond, sym, refl, ap, ◌∙◌, subst, arith, Some}
use Rattle.std.specs.Prelude.{◌&&◌}
use Rattle.std.proofs.lemmas.Bool.{eqb-true, eqb-false}
use mathlib.Core.Option.{some}
use lib.ListN.{get_elem?}
use Rattle.atomic_table.specs.Table.{State}
use Rattle.atomic_table.proofs.Lists.{at_map, set_again}
use Rattle.record_memory.specs.declared.books.LockedWord.{LockedWord}
use Rattle.record_memory.specs.declared.books.Setup.{Setup}
use Rattle.record_memory.specs.declared.books.View.{View}
use Rattle.row_words.specs.Refs.{LinkParts}
use Rattle.row_words.specs.Packing.{link_in, packed_link, IsLink}
use Rattle.row_words.proofs.Packed.{link_in-packed_link}
use Rattle.record_rule.specs.Records.{Record, IsSetup}
use Rattle.record_rule.specs.Inputs.{out, shape_cell, locks_of, Outline}
use Rattle.record_rule.specs.Facts.{At, word_in, link_at, with_link, lock_bit, has_lock, HasLock, ShapeFacts, CoverFacts}
use Rattle.record_rule.specs.Laws.{recelled}
use Rattle.record_rule.specs.Locks.{body_in, without, LocksFit}
use Rattle.record_rule.specs.World.{Rule}
use Rattle.record_rule.specs.Links.{Origin, index_of, generation_at, link_word, locked_word, locks_after}
use Rattle.record_rule.specs.LockedLinks.{IsUnlocked, HasLocked, locks_left}
use Rattle.record_rule.proofs.Lists.{one_at}
use Rattle.record_rule.proofs.Steps.{before, book}
use Rattle.record_rule.proofs.Nodes.{NodeOf, body_word, five}
use Rattle.record_rule.proofs.Locks.{found_in, seen_body, seen_standing, one_body, seen_stands, locks_stay, locks_gained, locks_fewer}

-- a test that fails
no_lock : (l : LinkParts) → has_lock l ≡ false → ¬ HasLock l
no_lock l e = eqb-false (lock_bit l) 1 e

-- which locks there are after an exchange, by its two tests
by_tests : (a b : Bool) (P : List LockedWord → Type 0) (more same : List LockedWord) → (a ≡ true → b ≡ true → P more) → ((a ≡ true → b ≡ false) → P same) → P (cond (a && b) more same)
by_tests true true P more same gains stays = gains refl refl
by_tests true false P more same gains stays = stays (λ _. refl)
by_tests false b P more same gains stays = stays (λ e. let none : ⊥ = cc in absurd none)

module _ (shape : ShapeFacts) (cover : CoverFacts) (setup : Setup) (is_setup : IsSetup setup) (s : State (Unit {0}) View) (u : Rule shape cover setup s) (id : ℕ) (v : View) (at : get_elem? s.views id ≡ some v) (present : v.present ≡ true)
    (o : Origin) (n : NodeOf shape cover setup is_setup s u id v at present o) (f : ℕ) (low : 3 ≤ f) (high : f < 8) where
  abbrev c : ℕ
  c = v.own.caller

  -- what the facts read before the step
  abbrev was : Outline
  was = before shape cover setup s u

  -- where the node stands in the list, and its body
  abbrev i : ℕ
  i = index_of o - 1

  abbrev body : List ℕ
  body = drop 3 n.node.row

  -- what the caller has locked
  own_locks : At was.locks c v.own.locks
  own_locks = at_map locks_of u.books c v.own (book shape cover setup s u id v at present)

  index_is : index_of o ≡ i + 1
  index_is = let pos = n.some_index in omega arith

  -- a set sees the node
  node_seen : body_in (shape_cell n.node) ≡ Some body
  node_seen = seen_body (shape_cell n.node) n.node.generation n.node.marked body n.body

  -- The caller that has the node's word locked knows the word, and that it is a locked link
  pub record KnowsLock (old : LinkParts) : Type 0 where
    pub found : get_or n.node.row f 0 ≡ link_word setup o old
    pub link : link_in (get_or n.node.row f 0) ≡ old
    pub flag : HasLock old
    pub lockable : shape.lockable f ≡ true

  pub knows_lock : v.setup ≡ setup → (old : LinkParts) → HasLocked v o f old → KnowsLock old
  knows_lock same old has = let x = found_in (index_of o) f (link_word v.setup o old) v.own.locks has.known in let y = u.parts.locks.each c x.place v.own.locks x.entry own_locks x.at in
      let index : x.entry.index - 1 ≡ i = ap (λ (z : ℕ). z - 1) x.on.0 in
      let cell : y.cell ≡ shape_cell n.node = one_at was.shapes i y.cell (shape_cell n.node) (subst (λ (z : ℕ). At was.shapes z y.cell) index y.at) (at_map shape_cell u.records i n.node n.there) in
      let same_body : y.body ≡ body = one_body (shape_cell n.node) y.body body (ap body_in (sym cell) ∙ seen_standing y.cell y.body y.stands) node_seen in
      let value : x.entry.value ≡ link_word setup o old = x.holds ∙ ap (λ (z : Setup). link_word z o old) same in
      let found : get_or n.node.row f 0 ≡ link_word setup o old = sym (body_word n.node.row f low) ∙ (λ k. word_in (sym same_body k) (sym x.on.1 k)) ∙ y.value ∙ value in
      let link : link_in (link_word setup o old) ≡ old = link_in-packed_link (generation_at setup o) old has.in_range in record {
        found = found;
        link = ap link_in found ∙ link;
        flag = subst HasLock (ap link_in value ∙ link) y.flag;
        lockable = ap shape.lockable (sym x.on.1) ∙ y.lockable;
      }

  module _ (records : List Record) (there : At records i n.node) (new : LinkParts) (is_new : IsLink new) where
    -- the locks that there are, once the node's link is left as the new one, and its caller has these words locked
    abbrev pub Locked : List LockedWord → Type 0
    Locked locks = (marked : ℕ) → LocksFit shape (set (map shape_cell records) i (recelled (shape_cell n.node) (with_link body f n.node.generation new) marked)) (set was.locks c locks)

    module _ (h : LocksFit shape (map shape_cell records) was.locks) where
      -- the node's cell, and how long its body is
      at_node : At (map shape_cell records) i (shape_cell n.node)
      at_node = at_map shape_cell records i n.node there

      long : f - 3 < length body
      long = let e = five shape cover setup is_setup s u id v at present o n in omega arith

      module _ (old : LinkParts) (old_is : link_in (get_or n.node.row f 0) ≡ old) (clear : IsUnlocked shape f old) where
        -- the link that it finds has no lock
        found_clear : shape.lockable f ≡ true → ¬ HasLock (link_at body f)
        found_clear may flag = clear may (subst HasLock (ap link_in (body_word n.node.row f low) ∙ old_is) flag)

        -- It found no lock, and left none
        pub stay_locked : IsUnlocked shape f new → Locked v.own.locks
        stay_locked plain marked = subst (LocksFit shape _) (sym (set_again was.locks c v.own.locks own_locks))
            (locks_stay shape (map shape_cell records) was.locks h i f n.node.generation marked (shape_cell n.node) body new at_node node_seen low long is_new found_clear plain)

        -- It found no lock; where it left one, its record wasn't taken out
        pub exchange_locked : v.setup ≡ setup → (shape.lockable f ≡ true → HasLock new → (generation m k : ℕ) (b : List ℕ) → shape_cell n.node ≡ out generation b m k → ⊥) → Locked (locks_after shape v o f new)
        exchange_locked same stands = by_tests (shape.lockable f) (has_lock new) Locked (locked_word v.setup o f new ∷ v.own.locks) v.own.locks
            (λ may flag marked. let locked : HasLock new = eqb-true (lock_bit new) 1 flag in
            locks_gained shape (map shape_cell records) was.locks h i f n.node.generation marked (shape_cell n.node) body new at_node node_seen low long is_new c v.own.locks own_locks (locked_word v.setup o f new) (index_is, refl)
            ((λ k. packed_link (generation_at (same k) o) new) ∙ (λ k. packed_link (sym n.generation k) new)) may (seen_stands (shape_cell n.node) body node_seen (λ g m k b e. stands may locked g m k b e)) (found_clear may) locked)
            (λ none. stay_locked (λ may. no_lock new (none may)))

      -- The caller had the word locked, and left no lock
      pub fewer_locked : (old : LinkParts) → HasLocked v o f old → ¬ HasLock new → Locked (locks_left v o f)
      fewer_locked old has plain marked = let x = found_in (index_of o) f (link_word v.setup o old) v.own.locks has.known in
          subst (λ (z : ℕ). LocksFit shape (set (map shape_cell records) i (recelled (shape_cell n.node) (with_link body f n.node.generation new) marked)) (set was.locks c (without z f v.own.locks))) (sym index_is)
          (locks_fewer shape (map shape_cell records) was.locks h i f n.node.generation marked (shape_cell n.node) body new at_node node_seen low long is_new c v.own.locks own_locks x.place x.entry x.at (x.on.0 ∙ index_is, x.on.1) plain)
