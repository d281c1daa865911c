-- What ties a list to its history, after one cell was set.
use Rattle.std.proofs.Common.{◌≡◌, ◌≢◌, ℕ, ◌+◌, ◌-◌, ◌<◌, ◌⊎◌, inl, inr, List, [], ◌∷◌, ◌++◌, length, set, Bool, true, false, not, cond, eqb, ◌&&◌, ◌||◌, Some, sym, refl, ap, ◌∙◌, subst, arith, ⊎_elim}
use Rattle.std.proofs.lemmas.Bool.{eqb-true, eq-eqb, ne_eqb, and_parts, and_from, or_cases, or_left, or_right, not_from_false, both_ways, not-true}
use Rattle.std.proofs.lemmas.List.Sums.{sum_by-append}
use Rattle.atomic_table.proofs.Lists.{at_longer, at_last}
use Rattle.set_model.specs.declared.calls.Update.{Update}
use Rattle.set_model.specs.Keys.{Keys, contains}
use Rattle.set_model.specs.Histories.{keys_of, removals_in}
use Rattle.set_model.proofs.KeySets.{contains-insert, contains-remove}
use Rattle.set_model.proofs.HistoryLaws.{keys_of-push}
use Rattle.row_words.specs.Refs.{RefParts, LinkParts}
use Rattle.row_words.specs.Packing.{IsLink}
use Rattle.record_rule.specs.Inputs.{ShapeCell, linked, ShapeInput, Trace}
use Rattle.record_rule.specs.Facts.{At, link_at, key_at, with_link, mark_bit, HasMark, Near, at_root, at_held, ShapeFacts}
use Rattle.record_rule.specs.Laws.{NodeIs, grown}
use Rattle.record_rule.proofs.Lists.{below_at}
use Rattle.list_facts.specs.Tellings.{IsPresent, IsMarked, still, gone, is_marked_cell, ListTold}
use Rattle.list_facts.proofs.Present.{count_set, HasKey, one_key, MarkedAs, present_at, key_there, present_other, present_here, present_set, present_more, present_less, marked_set, marked_less}
use Rattle.list_facts.proofs.Bodies.{link_with_link, key_with_link}
use Rattle.list_facts.proofs.Nodes.{cell_near, clean_link}

-- an update of a caller
abbrev pub update : ℕ → ℕ → ℕ → Bool → Update
update c number k added = record { caller = c; number = number; key = k; added = added }

-- which keys are in the set after an insertion
contains_added : (updates : List Update) (c number k q : ℕ) → contains (keys_of (updates ++ update c number k true ∷ [])) q ≡ (eqb q k || contains (keys_of updates) q)
contains_added updates c number k q = ap (λ (keys : Keys). contains keys q) (keys_of-push updates (update c number k true)) ∙ contains-insert (keys_of updates) k q

-- and after a removal
contains_removed : (updates : List Update) (c number k q : ℕ) → contains (keys_of (updates ++ update c number k false ∷ [])) q ≡ (not (eqb q k) && contains (keys_of updates) q)
contains_removed updates c number k q = ap (λ (keys : Keys). contains keys q) (keys_of-push updates (update c number k false)) ∙ contains-remove (keys_of updates) k q

-- how many taken_out there are after an update
removals_in-push : (updates : List Update) (u : Update) → removals_in (updates ++ u ∷ []) ≡ removals_in updates + cond (not u.added) 1 0
removals_in-push updates u = omega (arith, sum_by-append (λ (v : Update). cond (not v.added) 1 0) updates (u ∷ []))

-- the update at this position, from 1, is a removal of the body's key
abbrev pub IsRemoval : List Update → List ℕ → ℕ → Type 0
IsRemoval updates body m = (0 < m) × ((u : Update) × At updates (m - 1) u × (u.key ≡ key_at body) × (u.added ≡ false))

-- it is one still after an update more
removal_longer : (updates : List Update) (u : Update) (body : List ℕ) (m : ℕ) → IsRemoval updates body m → IsRemoval (updates ++ u ∷ []) body m
removal_longer updates u body m p = (p.0, (p.1.0, at_longer updates (u ∷ []) (m - 1) p.1.0 p.1.1, p.1.2, p.1.3))

-- the last update is one
removal_last : (updates : List Update) (c number k m : ℕ) (body : List ℕ) → m ≡ length updates + 1 → key_at body ≡ k → IsRemoval (updates ++ update c number k false ∷ []) body m
removal_last updates c number k m body last is = (omega arith, (update c number k false, at_last updates (update c number k false) (m - 1) (omega arith), sym is, refl))

-- a marked record, linked or taken out behind some start, is marked
pub marked_any : {cells : List ShapeCell} {i m start : ℕ} {body : List ℕ} → IsMarked cells i body m start → IsMarked cells i body m 0
marked_any (still generation at mark) = still generation at mark
marked_any (gone generation n at late) = gone generation n at (omega arith)

-- Each marked record has the position of the removal that marked it, and is the only one that has it
pub one_marked : {x : ShapeInput} {h : Trace} → ListTold x h → (i j m start since : ℕ) (body other : List ℕ) → IsMarked x.cells i body m start → IsMarked x.cells j other m since → (i ≡ j) × IsRemoval h.updates body m
one_marked told i j m start since body other p q = (told.alone i j m body other (marked_any p) (marked_any q), told.marks i m body (marked_any p))

-- one cell was set
module _ {x : ShapeInput} {h : Trace} (told : ListTold x h) (i : ℕ) (a b : ShapeCell) (was : At x.cells i a) where
  -- no update: the cell has the keys and the marks that it had, and a record was taken out or none
  pub told_moved : (taken_out : List RefParts) → ((k : ℕ) → HasKey a k → HasKey b k) → ((k : ℕ) → HasKey b k → HasKey a k) → ((m : ℕ) (body : List ℕ) → MarkedAs b body m → MarkedAs a body m)
      → length taken_out + cond (is_marked_cell b) 1 0 ≡ length x.taken_out + cond (is_marked_cell a) 1 0 → ListTold (record x { cells = set x.cells i b; taken_out = taken_out }) h
  told_moved taken_out more less marks counts = record {
    keys = λ k. (λ c. present_more x.cells i a b was more k ((told.keys k).0 c), λ p. (told.keys k).1 (present_less x.cells i a b was less k p));
    marks = λ j m body p. told.marks j m body (marked_less x.cells i a b was marks j m body p);
    alone = λ j k m body other p q. told.alone j k m body other (marked_less x.cells i a b was marks j m body p) (marked_less x.cells i a b was marks k m other q);
    balance = omega (arith, told.balance, counts, count_set is_marked_cell x.cells i a b was);
  }

  module _ (c number k : ℕ) where
    -- the key was added with the cell
    module _ (none : (q : ℕ) → HasKey a q → ⊥) (new : HasKey b k) (unmarked : (m : ℕ) (body : List ℕ) → MarkedAs b body m → ⊥) (counts : is_marked_cell a ≡ is_marked_cell b) where
      -- the keys of the set are those of the cells
      keys_added : (q : ℕ) → contains (keys_of (h.updates ++ update c number k true ∷ [])) q ≡ true → IsPresent (set x.cells i b) q
      keys_added q has = ⊎_elim
          (λ same. present_here x.cells i a b was q (subst (HasKey b) (sym (eqb-true q k same)) new))
          (λ old. present_more x.cells i a b was (λ z p. absurd (none z p)) q ((told.keys q).0 old))
          (or_cases (eqb q k) (contains (keys_of h.updates) q) (sym (contains_added h.updates c number k q) ∙ has))

      -- and the keys of the cells are the set's
      added_keys : (q : ℕ) → IsPresent (set x.cells i b) q → contains (keys_of (h.updates ++ update c number k true ∷ [])) q ≡ true
      added_keys q p = contains_added h.updates c number k q ∙ ⊎_elim
          (λ has. or_left (eqb q k) (contains (keys_of h.updates) q) (eq-eqb q k (one_key b q k has new)))
          (λ t. or_right (eqb q k) (contains (keys_of h.updates) q) ((told.keys q).1 (present_at x.cells t.0 q t.1 t.3 t.4)))
          (present_set x.cells i a b was q p)

      -- so an insertion keeps what is told
      pub told_added : ListTold (record x { cells = set x.cells i b }) (grown h (Some (update c number k true)))
      told_added = record {
        keys = λ q. (keys_added q, added_keys q);
        marks = λ j m body p. removal_longer h.updates (update c number k true) body m (told.marks j m body (marked_less x.cells i a b was (λ z d e. absurd (unmarked z d e)) j m body p));
        alone = λ j q m body other p r. told.alone j q m body other (marked_less x.cells i a b was (λ z d e. absurd (unmarked z d e)) j m body p) (marked_less x.cells i a b was (λ z d e. absurd (unmarked z d e)) q m other r);
        balance = let count = ap {B = ℕ} (λ (t : Bool). cond t 1 0) counts in omega (arith, told.balance, count, removals_in-push h.updates (update c number k true), count_set is_marked_cell x.cells i a b was);
      }

    -- the key was removed: the cell alone had it, and has a mark now
    module _ (had : HasKey a k) (only : (j : ℕ) (cell : ShapeCell) → At x.cells j cell → HasKey cell k → j ≡ i) (none : (q : ℕ) → HasKey b q → ⊥)
        (marked : (m : ℕ) (body : List ℕ) → MarkedAs b body m → (m ≡ length h.updates + 1) × (key_at body ≡ k)) (before : is_marked_cell a ≡ false) (after : is_marked_cell b ≡ true) where
      -- another key than the one that was removed is there still
      removed_other : (q : ℕ) → q ≢ k → IsPresent x.cells q → IsPresent (set x.cells i b) q
      removed_other q differs p = present_other x.cells i a b was p.0 q (linked p.1 p.3 p.2) (λ e. differs (one_key a q k (key_there x.cells i a b was q p e) had)) p.4 (p.5, p.6)

      -- the keys of the set are those of the cells
      keys_removed : (q : ℕ) → contains (keys_of (h.updates ++ update c number k false ∷ [])) q ≡ true → IsPresent (set x.cells i b) q
      keys_removed q has =
          let parts = and_parts (not (eqb q k)) (contains (keys_of h.updates) q) (sym (contains_removed h.updates c number k q) ∙ has) in
          removed_other q (λ e. both_ways (eqb q k) (not-true (eqb q k) parts.0) (eq-eqb q k e)) ((told.keys q).0 parts.1)

      -- and the keys of the cells are the set's
      removed_keys : (q : ℕ) → IsPresent (set x.cells i b) q → contains (keys_of (h.updates ++ update c number k false ∷ [])) q ≡ true
      removed_keys q p = contains_removed h.updates c number k q ∙ ⊎_elim
          (λ has. absurd (none q has))
          (λ t. and_from (not (eqb q k)) (contains (keys_of h.updates) q)
          (not_from_false (eqb q k) (ne_eqb q k (λ e. t.2 (only t.0 t.1 t.3 (subst (HasKey t.1) e t.4)))))
          ((told.keys q).1 (present_at x.cells t.0 q t.1 t.3 t.4)))
          (present_set x.cells i a b was q p)

      -- a marked record has the position of its removal
      removal_marked : (j m : ℕ) (body : List ℕ) → IsMarked (set x.cells i b) j body m 0 → IsRemoval (h.updates ++ update c number k false ∷ []) body m
      removal_marked j m body p = ⊎_elim
          (λ t. let is = marked m body t.1 in removal_last h.updates c number k m body is.0 is.1)
          (λ old. removal_longer h.updates (update c number k false) body m (told.marks j m body old))
          (marked_set x.cells i a b was j m body p)

      -- a record that was marked before has the position of an older one
      marked_older : (j m : ℕ) (body : List ℕ) → IsMarked x.cells j body m 0 → m ≢ length h.updates + 1
      marked_older j m body p same = let old = told.marks j m body p in let b = below_at h.updates (m - 1) old.1.0 old.1.1 in omega arith

      -- so no other record has its position
      marked_alone : (j q m : ℕ) (body other : List ℕ) → ((j ≡ i) × MarkedAs b body m) ⊎ IsMarked x.cells j body m 0 → ((q ≡ i) × MarkedAs b other m) ⊎ IsMarked x.cells q other m 0 → j ≡ q
      marked_alone j q m body other (inl p) (inl r) = p.0 ∙ sym r.0
      marked_alone j q m body other (inl p) (inr r) = absurd (marked_older q m other r (marked m body p.1).0)
      marked_alone j q m body other (inr p) (inl r) = absurd (marked_older j m body p (marked m other r.1).0)
      marked_alone j q m body other (inr p) (inr r) = told.alone j q m body other p r

      -- so a removal keeps what is told
      pub told_removed : ListTold (record x { cells = set x.cells i b }) (grown h (Some (update c number k false)))
      told_removed = record {
        keys = λ q. (keys_removed q, removed_keys q);
        marks = removal_marked;
        alone = λ j q m body other p r. marked_alone j q m body other (marked_set x.cells i a b was j m body p) (marked_set x.cells i a b was q m other r);
        balance =
            let old = ap {B = ℕ} (λ (t : Bool). cond t 1 0) before in
            let new = ap {B = ℕ} (λ (t : Bool). cond t 1 0) after in
            omega (arith, told.balance, old, new, removals_in-push h.updates (update c number k false), count_set is_marked_cell x.cells i a b was);
      }

-- with another body of the same key, without a mark, a node's cell has the keys that it had
key_kept : (near : Near) (generation m m' : ℕ) (body body' : List ℕ) → ¬ HasMark (link_at body' 3) → key_at body' ≡ key_at body → (k : ℕ) → HasKey (cell_near near generation body m) k → HasKey (cell_near near generation body' m') k
key_kept (at_root i) generation m m' body body' clear is k has = absurd has
key_kept (at_held r note) generation m m' body body' clear is k has = (clear, is ∙ has.1)

-- it isn't marked
pub mark_none : (near : Near) (generation m : ℕ) (body : List ℕ) → ¬ HasMark (link_at body 3) → (m' : ℕ) (body' : List ℕ) → MarkedAs (cell_near near generation body m) body' m' → ⊥
mark_none (at_root i) generation m body clear m' body' is = absurd is
mark_none (at_held r note) generation m body clear m' body' is = clear is.0

-- so it isn't counted
mark_uncounted : (near : Near) (generation m : ℕ) (body : List ℕ) → ¬ HasMark (link_at body 3) → is_marked_cell (cell_near near generation body m) ≡ false
mark_uncounted (at_root i) generation m body clear = refl
mark_uncounted (at_held r note) generation m body clear = ne_eqb (mark_bit (link_at body 3)) 1 clear

-- another link without a mark, at a node without one, changes nothing of what is told
pub told_turned : {s : ShapeFacts} {cells : List ShapeCell} {near : Near} {f : ℕ} {old : LinkParts} (n : NodeIs s cells near f old) → f ≡ 3 → ¬ HasMark old → (new : LinkParts) (m : ℕ) → IsLink new → ¬ HasMark new
    → {x : ShapeInput} {h : Trace} → ListTold x h → At x.cells n.index (cell_near near n.generation n.body n.marked) → ListTold (record x { cells = set x.cells n.index (cell_near near n.generation (with_link n.body f n.generation new) m) }) h
told_turned {near = near} {f = f} n field clear new m in_range new_clear {x = x} told at =
    let after : List ℕ = with_link n.body f n.generation new in
    let was : ¬ HasMark (link_at n.body 3) = clean_link n field clear in
    let is : ¬ HasMark (link_at after 3) = rw (link_with_link n.body f n.generation new field n.long in_range) new_clear in
    let setup : key_at after ≡ key_at n.body = key_with_link n.body f n.generation new field in
    told_moved told n.index (cell_near near n.generation n.body n.marked) (cell_near near n.generation after m) at x.taken_out
    (key_kept near n.generation n.marked m n.body after is setup)
    (key_kept near n.generation m n.marked after n.body was (sym setup))
    (λ k body has. absurd (mark_none near n.generation m after is k body has))
    (ap {B = ℕ} (λ t. length x.taken_out + cond t 1 0) (mark_uncounted near n.generation m after is ∙ sym (mark_uncounted near n.generation n.marked n.body was)))
