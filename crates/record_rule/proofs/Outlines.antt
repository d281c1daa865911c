-- What every caller holds, after one caller's guard or notes changed.
use Rattle.std.proofs.Common.{◌≡◌, ℕ, ◌+◌, ◌-◌, ◌≤◌, List, length-set, set, Bool, true, false, sym, refl, ap, ◌∙◌, subst, arith, ⊎_elim, Some}
use native.Mathlib.Decide.{ℕ_discrete}
use lib.ListN.{get_elem?}
use Rattle.atomic_table.proofs.Lists.{at_set, set_here, set_else}
use Rattle.record_memory.specs.declared.books.Guard.{Guard}
use Rattle.record_memory.specs.declared.books.Note.{Note}
use Rattle.row_words.specs.Refs.{RefParts}
use Rattle.set_model.specs.declared.calls.Update.{Update}
use Rattle.record_memory.specs.declared.books.Setup.{Setup}
use Rattle.record_rule.specs.Known.{KnownFits}
use Rattle.record_rule.specs.Inputs.{ShapeCell, linked, out, ShapeInput, start_of}
use Rattle.record_rule.specs.Facts.{At, word_in, of_held, ShapeFacts, FitsNote}
use Rattle.record_rule.specs.Held.{HoldFits, while_linked, while_out, HeldFits}
use Rattle.record_rule.specs.Links.{Origin, from_root, from_place, index_of, note_in, note_word, noting}
use Rattle.record_rule.proofs.Lists.{below_at, one_at}
use Rattle.record_rule.proofs.HeldMoves.{body_of, HasBody}

-- a fact of each caller's guard and notes, after one caller's changed
pub each_held : (P : Guard → List Note → Type 0) (guards : List Guard) (notes : List (List Note)) (c : ℕ) (g : Guard) (n : List Note) → ((d : ℕ) (h : Guard) (l : List Note) → At guards d h → At notes d l → P h l) → P g n
    → (d : ℕ) (h : Guard) (l : List Note) → At (set guards c g) d h → At (set notes c n) d l → P h l
each_held P guards notes c g n each here d h l at there = ⊎_elim
    (λ x. ⊎_elim (λ y. subst (λ (z : Guard × List Note). P z.0 z.1) (λ k. (x.1 k, y.1 k)) here) (λ y. absurd (y.0 x.0)) (at_set notes c d n l there))
    (λ x. ⊎_elim (λ y. absurd (x.0 y.0)) (λ y. each d h l x.1 y.1) (at_set notes c d n l there))
    (at_set guards c d g h at)

-- the same of what it keeps of the roots beside
pub each_known : (P : Guard → List Note → List (List ℕ) → Type 0) (guards : List Guard) (notes : List (List Note)) (roots : List (List (List ℕ))) (c : ℕ) (g : Guard) (n : List Note) (k : List (List ℕ))
    → ((d : ℕ) (h : Guard) (l : List Note) (m : List (List ℕ)) → At guards d h → At notes d l → At roots d m → P h l m) → P g n k
    → (d : ℕ) (h : Guard) (l : List Note) (m : List (List ℕ)) → At (set guards c g) d h → At (set notes c n) d l → At (set roots c k) d m → P h l m
each_known P guards notes roots c g n k each here d h l m at there known = ⊎_elim
    (λ x. ⊎_elim (λ y. ⊎_elim (λ z. subst (λ (w : Guard × (List Note × List (List ℕ))). P w.0 w.1.0 w.1.1) (λ j. (x.1 j, (y.1 j, z.1 j))) here) (λ z. absurd (z.0 x.0)) (at_set roots c d k m known)) (λ y. absurd (y.0 x.0)) (at_set notes c d n l there))
    (λ x. ⊎_elim (λ y. absurd (x.0 y.0)) (λ y. ⊎_elim (λ z. absurd (x.0 z.0)) (λ z. each d h l m x.1 y.1 z.1) (at_set roots c d k m known)) (at_set notes c d n l there))
    (at_set guards c d g h at)

-- a caller that notes a word keeps what it kept
pub known_noting : (s : ShapeFacts) (setup : Setup) (x : ShapeInput) (updates : List Update) (g : Guard) (notes : List Note) (roots : List (List ℕ)) (b : Bool) (o : Origin) (f n : ℕ)
    → ((p : ℕ) (r : RefParts) → o ≡ from_place p r → At g.holds p (Some r) × At notes p (note_in notes p)) → KnownFits s setup x updates g notes roots → KnownFits s setup x updates g (noting b notes o f n) roots
known_noting s setup x updates g notes roots false o f n there h = h
known_noting s setup x updates g notes roots true (from_root m) f n there h = h
known_noting s setup x updates g notes roots true (from_place p r) f n there h = record {
  held = λ q r' note hold at. ⊎_elim
      (λ y. subst (λ (z : Note). s.knows setup x updates (start_of g) (of_held r' z.kept)) y.1 (h.held p r' (note_in notes p) (ap (get_elem? g.holds) (sym y.0) ∙ hold) (there p r refl).1))
      (λ y. h.held q r' note hold y.1) (at_set notes p q (note_word (note_in notes p) f n) note at);
  root = h.root;
}

module _ (s : ShapeFacts) where
  -- a settled word of a body may be noted
  note_more : (note : Note) (body : List ℕ) (f n : ℕ) → 3 ≤ f → FitsNote s note body → word_in body f ≡ n → s.settled f body ≡ true → FitsNote s (note_word note f n) body
  note_more note body f n low fits is settled g k e = ⊎_elim
      (λ x. let back : f - 3 + 3 ≡ f = omega arith in let z : n ≡ k = (let q : Some n ≡ Some k = x.1 in cc) in
      (ap (word_in body) (ap (λ (y : ℕ). y + 3) x.0 ∙ back) ∙ is ∙ z, ap (λ (y : ℕ). s.settled y body) (ap (λ (y : ℕ). y + 3) x.0 ∙ back) ∙ settled))
      (λ x. fits g k x.1) (at_set note.words (f - 3) g (Some n) (Some k) e)

  -- which keeps what is known of its key
  keyed_more : (note : Note) (f n : ℕ) → (k : ℕ) × At note.words 1 (Some k) → (k : ℕ) × At (note_word note f n).words 1 (Some k)
  keyed_more note f n h = keyed_by (ℕ_discrete 1 (f - 3))
    where
      keyed_by : Dec (1 ≡ f - 3) → (k : ℕ) × At (note_word note f n).words 1 (Some k)
      keyed_by (yes e) = (n, ap (λ (z : ℕ). get_elem? (set note.words (f - 3) (Some n)) z) e ∙ set_here note.words (f - 3) (Some n) (let l = below_at note.words 1 (Some h.0) h.1 in omega arith))
      keyed_by (no ne) = (h.0, set_else note.words (f - 3) 1 (Some n) ne ∙ h.1)

  module _ (cells : List ShapeCell) (i generation m f n : ℕ) (body : List ℕ) (cell : ShapeCell) (at : At cells i cell) (has : HasBody cell generation body m) (low : 3 ≤ f) (is : word_in body f ≡ n) (settled : s.settled f body ≡ true) where
    -- what is held fits its note with one word more
    hold_more : (start : ℕ) (r : RefParts) (note : Note) → r.index ≡ i + 1 → HoldFits s cells start r note → HoldFits s cells start r (note_word note f n)
    hold_more start _ _ same (while_linked j e k b note there fits) = let cell_is = one_at cells i cell (linked e b k) at (subst (λ (z : ℕ). At cells z (linked e b k)) (let z : j ≡ i = omega arith in z) there) in
        let body_is : b ≡ body = (let q = ap body_of cell_is in cc) in
        while_linked j e k b (note_word note f n) there (note_more note b f n low fits (ap (λ (x : List ℕ). word_in x f) body_is ∙ is) (ap (s.settled f) body_is ∙ settled))
    hold_more start _ _ same (while_out j e k q b note there late fits) = let cell_is = one_at cells i cell (out e b k q) at (subst (λ (z : ℕ). At cells z (out e b k q)) (let z : j ≡ i = omega arith in z) there) in
        let body_is : b ≡ body = (let h = ap body_of cell_is in cc) in
        while_out j e k q b (note_word note f n) there late (note_more note b f n low fits (ap (λ (x : List ℕ). word_in x f) body_is ∙ is) (ap (s.settled f) body_is ∙ settled))

    -- a caller notes a settled word of a record that it holds
    held_more : (places : ℕ) (taken_out : List RefParts) (g : Guard) (notes : List Note) (p : ℕ) (r : RefParts) (note : Note) → HeldFits s places cells taken_out g notes → At g.holds p (Some r) → At notes p note → r.index ≡ i + 1
        → HeldFits s places cells taken_out g (set notes p (note_word note f n))
    held_more places taken_out g notes p r note h hold there same = record {
      many = h.many;
      noted = length-set notes p (note_word note f n) ∙ h.noted;
      start = h.start;
      holds = λ q x k e a. ⊎_elim
          (λ y. let x_is : r ≡ x = (let z : Some r ≡ Some x = one_at g.holds p (Some r) (Some x) hold (ap (get_elem? g.holds) (sym y.0) ∙ e) in cc) in
          subst (λ (z : RefParts × Note). HoldFits s cells g.start_taken_out z.0 z.1) (λ j. (x_is j, y.1 j)) (hold_more g.start_taken_out r note same (h.holds p r note hold there)))
          (λ y. h.holds q x k e y.1) (at_set notes p q (note_word note f n) k a);
      keyed = λ q x k e a. ⊎_elim
          (λ y. subst (λ (z : Note). (w : ℕ) × At z.words 1 (Some w)) y.1 (keyed_more note f n (h.keyed p r note hold there)))
          (λ y. h.keyed q x k e y.1) (at_set notes p q (note_word note f n) k a);
      waits = λ q x k e a. ⊎_elim
          (λ y. absurd ((h.waits p x note (e ∙ (λ j. Some (y.0 j, x))) there).0 r hold))
          (λ y. h.waits q x k e y.1) (at_set notes p q (note_word note f n) k a);
    }

    -- where the word is settled
    held_noting_if : (b : Bool) (places : ℕ) (taken_out : List RefParts) (g : Guard) (notes : List Note) (o : Origin) → HeldFits s places cells taken_out g notes → ((p : ℕ) (r : RefParts) → o ≡ from_place p r → At g.holds p (Some r) × At notes p (note_in notes p)) → index_of o ≡ i + 1
        → HeldFits s places cells taken_out g (noting b notes o f n)
    held_noting_if false places taken_out g notes o h held same = h
    held_noting_if true places taken_out g notes (from_root k) h held same = h
    held_noting_if true places taken_out g notes (from_place p r) h held same = let x = held p r refl in held_more places taken_out g notes p r (note_in notes p) h x.0 x.1 same

-- a caller notes a word of its node, where it is settled
pub held_noting : (s : ShapeFacts) (cells : List ShapeCell) (i generation m f n : ℕ) (body : List ℕ) (cell : ShapeCell) → At cells i cell → HasBody cell generation body m → 3 ≤ f → word_in body f ≡ n
    → (places : ℕ) (taken_out : List RefParts) (g : Guard) (notes : List Note) (o : Origin) → HeldFits s places cells taken_out g notes → ((p : ℕ) (r : RefParts) → o ≡ from_place p r → At g.holds p (Some r) × At notes p (note_in notes p)) → index_of o ≡ i + 1
    → HeldFits s places cells taken_out g (noting (s.settled f body) notes o f n)
held_noting s cells i generation m f n body cell at has low is places taken_out g notes o h held same = by (s.settled f body) refl
  where
    by : (b : Bool) → s.settled f body ≡ b → HeldFits s places cells taken_out g (noting b notes o f n)
    by false e = h
    by true e = held_noting_if s cells i generation m f n body cell at has low is e true places taken_out g notes o h held same
