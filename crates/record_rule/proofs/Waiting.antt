-- What is known of a record that waits to be held, after each move.
use Rattle.std.proofs.Common.{◌≡◌, ℕ, ◌+◌, ◌-◌, ◌<◌, ◌≤◌, ◌⊎◌, List, [], ◌∷◌, ◌++◌, length, map, drop, set, Option, Some, None, sym, refl, ap, ◌∙◌, subst, arith, ⊎_elim, inl, inr}
use mathlib.Core.Option.{some}
use native.Mathlib.Decide.{ℕ_discrete}
use Rattle.atomic_table.proofs.Lists.{at_set, set_here, set_else, at_last, at_longer, at_map}
use Rattle.record_memory.specs.declared.books.Note.{Note}
use Rattle.record_memory.specs.declared.books.Standing.TheVariants.{TakenOut, Limbo}
use Rattle.record_memory.specs.declared.books.Place.{Place}
use Rattle.record_memory.specs.declared.books.Place.TheVariants.{Linked, Of}
use Rattle.row_words.specs.Refs.{RefParts, refer}
use Rattle.record_rule.specs.Records.{Record}
use Rattle.record_rule.specs.Inputs.{ShapeCell, hidden, linked, out, shape_at, shape_cell, SchemeCell, scheme_at, scheme_cell}
use Rattle.record_rule.specs.Facts.{At, ShapeFacts, FitsNote}
use Rattle.record_rule.specs.Held.{HoldFits, while_linked, while_out, IsThereWith, WaitFits}
use Rattle.record_rule.specs.Laws.{LeadsTo, IsNewGeneration, IsThereAs, HiddenCells}
use Rattle.record_rule.proofs.Lists.{below_at, one_at, map_at}
use Rattle.record_rule.proofs.SeenCells.{cell_before, leads_after}

-- where nothing waits, this doesn't
pub none_waits : {A : Type 0} (o : Option (ℕ × RefParts)) (p : ℕ) (t : RefParts) → o ≡ None → o ≡ Some (p, t) → A
none_waits o p t e f = let none : None ≡ Some (p, t) = sym e ∙ f in let no_such : ⊥ = cc in absurd no_such

-- the cell is of a record at this generation with this body and marked position: linked, or taken out at this number or later
abbrev pub IsFrom : ShapeCell → ℕ → ℕ → List ℕ → ℕ → Type 0
IsFrom cell generation start body m = (cell ≡ linked generation body m) ⊎ ((n : ℕ) × (start ≤ n) × (cell ≡ out generation body m n))

-- where a reclaimer sees the record there, a set does
seen_place : (start generation : ℕ) (p : Place) (x : Record) → IsThereAs (scheme_at p x) generation start → IsFrom (shape_at p x) generation start (drop 3 x.row) x.marked
seen_place start generation Linked x h = inl (ap (λ (e : ℕ). linked e (drop 3 x.row) x.marked) h)
seen_place start generation (Of d TakenOut) x h = inr (x.taken_number, h.1, ap (λ (e : ℕ). out e (drop 3 x.row) x.marked x.taken_number) h.0)
seen_place start generation (Of d Limbo) x h = inr (x.taken_number, h.1, ap (λ (e : ℕ). out e (drop 3 x.row) x.marked x.taken_number) h.0)
seen_place start generation (Of d t) x h = absurd h
seen_place start generation p x h = absurd h

-- wherever it is
pub seen_cell : (records : List Record) (i start generation : ℕ) (c : SchemeCell) → At (map scheme_cell records) i c → IsThereAs c generation start
    → (body : List ℕ) × (m : ℕ) × (At (map shape_cell records) i (linked generation body m) ⊎ ((n : ℕ) × (start ≤ n) × At (map shape_cell records) i (out generation body m n)))
seen_cell records i start generation c at is = let y = map_at scheme_cell records i c at in let x : Record = y.0 in let here = at_map shape_cell records i x y.1 in
    (drop 3 x.row, x.marked, ⊎_elim (λ e. inl (here ∙ ap some e)) (λ z. inr (z.0, z.1, here ∙ ap some z.2)) (seen_place start generation x.place x (subst (λ (z : SchemeCell). IsThereAs z generation start) (sym y.2) is)))

module _ (s : ShapeFacts) where
  -- it is there with one body
  there_once : (cells : List ShapeCell) (r : RefParts) (a b : List ℕ) → IsThereWith s cells r a → IsThereWith s cells r b → a ≡ b
  there_once cells r a b x y = ⊎_elim
      (λ p. ⊎_elim
      (λ q. let e : linked r.generation a x.0 ≡ linked r.generation b y.0 = one_at cells (r.index - 1) (linked r.generation a x.0) (linked r.generation b y.0) p q in cc)
      (λ q. let e : linked r.generation a x.0 ≡ out r.generation b y.0 q.0 = one_at cells (r.index - 1) (linked r.generation a x.0) (out r.generation b y.0 q.0) p q.1 in let none : ⊥ = cc in absurd none) y.1)
      (λ p. ⊎_elim
      (λ q. let e : out r.generation a x.0 p.0 ≡ linked r.generation b y.0 = one_at cells (r.index - 1) (out r.generation a x.0 p.0) (linked r.generation b y.0) p.1 q in let none : ⊥ = cc in absurd none)
      (λ q. let e : out r.generation a x.0 p.0 ≡ out r.generation b y.0 q.0 = one_at cells (r.index - 1) (out r.generation a x.0 p.0) (out r.generation b y.0 q.0) p.1 q.1 in cc) y.1) x.1

  -- reaching
  pub waits_reached : (cells : List ShapeCell) (taken_out : List RefParts) (start : ℕ) (r : RefParts) (note : Note) (body : List ℕ) → 0 < r.index → LeadsTo cells r ⊎ ((k : ℕ) × (start ≤ k) × At taken_out k r) → IsThereWith s cells r body → FitsNote s note body
      → (n : ℕ) × At note.words 1 (Some n) → note.kept ≡ [] → WaitFits s cells taken_out start r note
  waits_reached cells taken_out start r note body indexed was_linked there fits keyed bare = record {
    indexed = indexed;
    was_linked = was_linked;
    fits = λ b x. subst (FitsNote s note) (there_once cells r body b there x) fits;
    keyed = keyed;
    bare = bare;
  }

  -- an own record is linked
  pub waits_linked : (cells : List ShapeCell) (taken_out : List RefParts) (start : ℕ) (r own : RefParts) (note : Note) (body : List ℕ) (m : ℕ) → At cells (own.index - 1) hidden → 0 < own.index → IsNewGeneration s taken_out own → WaitFits s cells taken_out start r note
      → WaitFits s (set cells (own.index - 1) (linked own.generation body m)) taken_out start r note
  waits_linked cells taken_out start r own note body m free some_own name w = let o : ℕ = own.index - 1 in let new : ShapeCell = linked own.generation body m in record {
    indexed = w.indexed;
    was_linked = ⊎_elim (λ x. inl (x.0, x.1, x.2, set_else cells o (r.index - 1) new (λ e. let none : hidden ≡ linked r.generation x.0 x.1 = one_at cells o hidden (linked r.generation x.0 x.1) free (subst (λ (z : ℕ). At cells z (linked r.generation x.0 x.1)) e x.3) in cc) ∙ x.3)) inr w.was_linked;
    fits = λ b seen. ⊎_elim
        (λ y. ⊎_elim (λ p. let age : own.generation ≡ r.generation = (let e = p.1 in cc) in absurd (never p.0 age)) (λ p. w.fits b (seen.0, inl p.1)) (at_set cells o (r.index - 1) new (linked r.generation b seen.0) y))
        (λ y. ⊎_elim (λ p. let none : ⊥ = (let e = p.1 in cc) in absurd none) (λ p. w.fits b (seen.0, inr (y.0, p.1))) (at_set cells o (r.index - 1) new (out r.generation b seen.0 y.0) y.1)) seen.1;
    keyed = w.keyed;
    bare = w.bare;
  }
    where
      never : r.index - 1 ≡ own.index - 1 → own.generation ≡ r.generation → ⊥
      never same age = ⊎_elim
          (λ x. let none : hidden ≡ linked r.generation x.0 x.1 = one_at cells (own.index - 1) hidden (linked r.generation x.0 x.1) free (subst (λ (z : ℕ). At cells z (linked r.generation x.0 x.1)) same x.3) in cc)
          (λ x. let i = w.indexed in let lt = name x.0 r x.2 (omega arith) in omega arith) w.was_linked

  -- a record is taken out
  pub waits_out : (cells : List ShapeCell) (taken_out : List RefParts) (start : ℕ) (r : RefParts) (note : Note) (i generation m : ℕ) (body : List ℕ) → At cells i (linked generation body m) → start ≤ length taken_out → WaitFits s cells taken_out start r note
      → WaitFits s (set cells i (out generation body m (length taken_out))) (taken_out ++ refer (i + 1) generation ∷ []) start r note
  waits_out cells taken_out start r note i generation m body at late w = let n : ℕ = length taken_out in let new : ShapeCell = out generation body m n in record {
    indexed = w.indexed;
    was_linked = ⊎_elim (λ x. by x (ℕ_discrete (r.index - 1) i)) (λ x. inr (x.0, x.1, at_longer taken_out (refer (i + 1) generation ∷ []) x.0 r x.2)) w.was_linked;
    fits = λ b seen. ⊎_elim
        (λ y. ⊎_elim (λ p. let none : ⊥ = (let e = p.1 in cc) in absurd none) (λ p. w.fits b (seen.0, inl p.1)) (at_set cells i (r.index - 1) new (linked r.generation b seen.0) y))
        (λ y. ⊎_elim
        (λ p. let a : generation ≡ r.generation = (let e = p.1 in cc) in let c : body ≡ b = (let e = p.1 in cc) in
        let d : m ≡ seen.0 = (let e = p.1 in cc) in w.fits b (seen.0, inl (subst (λ (z : ℕ). At cells z (linked r.generation b seen.0)) (sym p.0) (at ∙ (λ j. some (linked (a j) (c j) (d j)))))))
        (λ p. w.fits b (seen.0, inr (y.0, p.1))) (at_set cells i (r.index - 1) new (out r.generation b seen.0 y.0) y.1)) seen.1;
    keyed = w.keyed;
    bare = w.bare;
  }
    where
      by : LeadsTo cells r → Dec (r.index - 1 ≡ i) → LeadsTo (set cells i (out generation body m (length taken_out))) r ⊎ ((k : ℕ) × (start ≤ k) × At (taken_out ++ refer (i + 1) generation ∷ []) k r)
      by x (no ne) = inl (x.0, x.1, x.2, set_else cells i (r.index - 1) (out generation body m (length taken_out)) ne ∙ x.3)
      by x (yes e) = let same : linked generation body m ≡ linked r.generation x.0 x.1 = one_at cells i (linked generation body m) (linked r.generation x.0 x.1) at (subst (λ (z : ℕ). At cells z (linked r.generation x.0 x.1)) e x.3) in let age : generation ≡ r.generation = cc in
          let pos = x.2 in let name : refer (i + 1) generation ≡ r = (λ j. record { index = (let q : i + 1 ≡ r.index = omega arith in q) j; generation = age j }) in
          inr (length taken_out, late, subst (λ (z : RefParts). At (taken_out ++ refer (i + 1) generation ∷ []) (length taken_out) z) name (at_last taken_out (refer (i + 1) generation) (length taken_out) refl))

  -- records leave limbo
  pub waits_hidden : (cells cells' : List ShapeCell) (taken_out : List RefParts) (start : ℕ) (r : RefParts) (note : Note) → HiddenCells cells cells' → WaitFits s cells taken_out start r note → WaitFits s cells' taken_out start r note
  waits_hidden cells cells' taken_out start r note h w = record {
    indexed = w.indexed;
    was_linked = ⊎_elim (λ x. inl (leads_after cells cells' h r x)) inr w.was_linked;
    fits = λ b seen. w.fits b (
      seen.0,
      ⊎_elim (λ y. inl (cell_before cells cells' h (r.index - 1) (linked r.generation b seen.0) y (λ q. let none : ⊥ = cc in none)))
          (λ y. inr (y.0, cell_before cells cells' h (r.index - 1) (out r.generation b seen.0 y.0) y.1 (λ q. let none : ⊥ = cc in none))) seen.1,
    );
    keyed = w.keyed;
    bare = w.bare;
  }

  -- the cell shows the record at this generation with this body
  abbrev pub IsShown : ShapeCell → ℕ → List ℕ → Type 0
  IsShown cell generation body = (m : ℕ) × ((cell ≡ linked generation body m) ⊎ ((n : ℕ) × (cell ≡ out generation body m n)))

  -- the cell of one record was set, as the same record with words that the note fits still
  pub waits_set : (cells : List ShapeCell) (taken_out : List RefParts) (start i : ℕ) (cell new : ShapeCell) → At cells i cell → (r : RefParts) (note : Note)
      → ((b : List ℕ) (k : ℕ) → cell ≡ linked r.generation b k → (c : List ℕ) × (m : ℕ) × (new ≡ linked r.generation c m))
      → ((b : List ℕ) → IsShown new r.generation b → (a : List ℕ) × IsShown cell r.generation a × (FitsNote s note a → FitsNote s note b))
      → WaitFits s cells taken_out start r note → WaitFits s (set cells i new) taken_out start r note
  waits_set cells taken_out start i cell new at r note leads seen w = record {
    indexed = w.indexed;
    was_linked = ⊎_elim (λ x. inl (by x (ℕ_discrete (r.index - 1) i))) inr w.was_linked;
    fits = λ b there. ⊎_elim
        (λ y. ⊎_elim (λ p. here b p.0 (seen b (there.0, inl p.1))) (λ p. w.fits b (there.0, inl p.1)) (at_set cells i (r.index - 1) new (linked r.generation b there.0) y))
        (λ y. ⊎_elim (λ p. here b p.0 (seen b (there.0, inr (y.0, p.1)))) (λ p. w.fits b (there.0, inr (y.0, p.1))) (at_set cells i (r.index - 1) new (out r.generation b there.0 y.0) y.1)) there.1;
    keyed = w.keyed;
    bare = w.bare;
  }
    where
      is_at : r.index - 1 ≡ i → (c : ShapeCell) → cell ≡ c → At cells (r.index - 1) c
      is_at same c e = subst (λ (z : ℕ). At cells z c) (sym same) (at ∙ ap some e)

      here : (b : List ℕ) → r.index - 1 ≡ i → (a : List ℕ) × IsShown cell r.generation a × (FitsNote s note a → FitsNote s note b) → FitsNote s note b
      here b same x = x.2 (w.fits x.0 (x.1.0, ⊎_elim (λ e. inl (is_at same (linked r.generation x.0 x.1.0) e)) (λ e. inr (e.0, is_at same (out r.generation x.0 x.1.0 e.0) e.1)) x.1.1))

      by : LeadsTo cells r → Dec (r.index - 1 ≡ i) → LeadsTo (set cells i new) r
      by x (no ne) = (x.0, x.1, x.2, set_else cells i (r.index - 1) new ne ∙ x.3)
      by x (yes e) = let y = leads x.0 x.1 (one_at cells i cell (linked r.generation x.0 x.1) at (subst (λ (z : ℕ). At cells z (linked r.generation x.0 x.1)) e x.3)) in
          (y.0, y.1, x.2, subst (λ (z : ℕ). At (set cells i new) z (linked r.generation y.0 y.1)) (sym e) (set_here cells i new (below_at cells i cell at) ∙ ap some y.2))

  -- a confirmed record is held
  pub waits_confirmed : (records : List Record) (taken_out : List RefParts) (start : ℕ) (r : RefParts) (note : Note) → WaitFits s (map shape_cell records) taken_out start r note → (c : SchemeCell) → At (map scheme_cell records) (r.index - 1) c
      → IsThereAs c r.generation start → HoldFits s (map shape_cell records) start r note
  waits_confirmed records taken_out start r note w c at is = let x = seen_cell records (r.index - 1) start r.generation c at is in let i = w.indexed in let same : r.index - 1 + 1 ≡ r.index = omega arith in
      subst (λ (k : ℕ). HoldFits s (map shape_cell records) start (refer k r.generation) note) same (⊎_elim
      (λ y. while_linked (r.index - 1) r.generation x.1 x.0 note y (w.fits x.0 (x.1, inl y)))
      (λ y. while_out (r.index - 1) r.generation x.1 y.0 x.0 note y.2 y.1 (w.fits x.0 (x.1, inr (y.0, y.2)))) x.2)
