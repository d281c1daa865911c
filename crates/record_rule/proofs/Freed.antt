-- The records once those of one caller's limbo that pass a test have left it.
use Rattle.std.proofs.Common.{◌≡◌, ◌≢◌, ℕ, zero, suc, ◌+◌, List, [], ◌∷◌, length, map, cond, eqb, Bool, true, false, Option, Some, None, sym, refl, ap, ◌∙◌, subst, arith, get_or-take}
use Rattle.std.specs.Prelude.{◌&&◌}
use Rattle.std.proofs.lemmas.Bool.{eqb-true, eqb-false}
use Rattle.std.proofs.lemmas.List.{length-map}
use mathlib.Core.Option.{some, some-injective, some-ne-none}
use lib.ListN.{get_elem?}
use Rattle.atomic_table.proofs.Lists.{at_map}
use Rattle.record_memory.specs.declared.books.Share.{Share}
use Rattle.record_memory.specs.declared.books.Standing.{Standing}
use Rattle.record_memory.specs.declared.books.Standing.TheVariants.{Limbo, Free, Spent}
use Rattle.record_memory.specs.declared.books.Place.{Place}
use Rattle.record_memory.specs.declared.books.Place.TheVariants.{Undrawn, Of}
use Rattle.row_words.specs.Refs.{refer}
use Rattle.row_words.specs.Packing.{number_in}
use Rattle.record_rule.specs.Records.{Record, share}
use Rattle.record_rule.specs.Inputs.{ShapeCell, hidden, shape_cell, unseen, limbo, birth, stamp, scheme_had, scheme_at, scheme_cell, taken_cell}
use Rattle.record_rule.specs.Facts.{At, LimboRecord}
use Rattle.record_rule.specs.Laws.{limbo_record, IsFreed, goes, stays, FreedCells, IsHidden, hides_, keeps_, HiddenCells}
use Rattle.record_rule.specs.Standings.{is_limbo}
use Rattle.record_rule.specs.Freeing.{freed_standing, limbo_share, leaves_limbo, freed_of, freed_from}
use Rattle.record_rule.proofs.Lists.{below_at, at_below, one_at, map_at}
use Rattle.record_rule.proofs.Owned.{share_of, seen_by, unseen_by, has}

module _ {A : Type 0} where
  -- two lists with the same entries
  pub same_entries : (l k : List A) → length l ≡ length k → ((i : ℕ) (a : A) → get_elem? l i ≡ some a → get_elem? k i ≡ some a) → l ≡ k
  same_entries [] [] h e = refl
  same_entries [] (y ∷ ys) h e = absurd (omega arith)
  same_entries (x ∷ xs) [] h e = absurd (omega arith)
  same_entries (x ∷ xs) (y ∷ ys) h e = λ j. sym (some-injective y x (e 0 x refl)) j ∷ same_entries xs ys (omega arith) (λ i a at. e (suc i) a at) j

-- whether it goes
abbrev pub goes_at : (LimboRecord → Bool) → ℕ → ℕ → Place → Record → Bool
goes_at may d i (Of c s) r = eqb c d && leaves_limbo may i (share_of s r)
goes_at may d i p r = false

abbrev pub freed_record : (LimboRecord → Bool) → ℕ → ℕ → Record → Record
freed_record may d i r = cond (goes_at may d i r.place r) (record r { place = Of d (freed_standing r.generation) }) r

abbrev pub freed_records : (LimboRecord → Bool) → ℕ → ℕ → List Record → List Record
freed_records may d i [] = []
freed_records may d i (r ∷ rs) = freed_record may d i r ∷ freed_records may d (i + 1) rs

-- what became of the record with the index i + 1
pub data WasFreed (may : LimboRecord → Bool) (d i : ℕ) (r : Record) : Record → Type 0 where
  went : r.place ≡ Of d Limbo → may (limbo_share i (share_of Limbo r)) ≡ true → WasFreed may d i r (record r { place = Of d (freed_standing r.generation) })
  stayed : (r.place ≡ Of d Limbo → may (limbo_share i (share_of Limbo r)) ≡ false) → WasFreed may d i r r

both : (a b : Bool) → (a && b) ≡ true → (a ≡ true) × (b ≡ true)
both true b h = (refl, h)
both false b h = let none : ⊥ = cc in absurd none

limbo_is : (s : Standing) → is_limbo s ≡ true → s ≡ Limbo
limbo_is Limbo h = refl
limbo_is s h = let none : ⊥ = cc in absurd none

false_true : {A : Type 0} → false ≡ true → A
false_true e = let none : ⊥ = cc in absurd none

module _ (may : LimboRecord → Bool) (d : ℕ) where
  pub went_at : (i : ℕ) (p : Place) (r : Record) → goes_at may d i p r ≡ true → (p ≡ Of d Limbo) × (may (limbo_share i (share_of Limbo r)) ≡ true)
  went_at i (Of c s) r h = let x = both (eqb c d) (leaves_limbo may i (share_of s r)) h in let y = both (is_limbo s) (may (limbo_share i (share_of s r))) x.1 in
      let is = limbo_is s y.0 in ((λ j. Of (eqb-true c d x.0 j) (is j)), subst (λ (z : Standing). may (limbo_share i (share_of z r)) ≡ true) is y.1)
  went_at i Undrawn r h = false_true h
  went_at i p r h = false_true h

  stayed_at : (i : ℕ) (p : Place) (r : Record) → goes_at may d i p r ≡ false → p ≡ Of d Limbo → may (limbo_share i (share_of Limbo r)) ≡ false
  stayed_at i p r h is = sym (goes_limbo d) ∙ ap (λ (q : Place). goes_at may d i q r) (sym is) ∙ h
    where
      goes_limbo : (c : ℕ) → goes_at may c i (Of c Limbo) r ≡ may (limbo_share i (share_of Limbo r))
      goes_limbo c = by (eqb c c) refl
        where
          by : (b : Bool) → eqb c c ≡ b → (b && (true && may (limbo_share i (share_of Limbo r)))) ≡ may (limbo_share i (share_of Limbo r))
          by true e = refl
          by false e = absurd (eqb-false c c e refl)

  was_freed : (i : ℕ) (r : Record) → WasFreed may d i r (freed_record may d i r)
  was_freed i r = by (goes_at may d i r.place r) refl
    where
      by : (b : Bool) → goes_at may d i r.place r ≡ b → WasFreed may d i r (cond b (record r { place = Of d (freed_standing r.generation) }) r)
      by true e = let x = went_at i r.place r e in went x.0 x.1
      by false e = stayed (stayed_at i r.place r e)

  -- one by one
  pub each_freed : (i : ℕ) (rs : List Record) (j : ℕ) (x : Record) → At (freed_records may d i rs) j x → (r : Record) × At rs j r × WasFreed may d (i + j) r x
  each_freed i [] j x e = absurd (some-ne-none x (sym e))
  each_freed i (r ∷ rs) zero x e = (r, refl, subst (λ (z : ℕ × Record). WasFreed may d z.0 r z.1) (λ k. ((let q : i ≡ i + 0 = omega arith in q) k, some-injective (freed_record may d i r) x e k)) (was_freed i r))
  each_freed i (r ∷ rs) (suc j) x e = let y = each_freed (i + 1) rs j x e in (y.0, y.1, subst (λ (z : ℕ). WasFreed may d z y.0 x) (let q : i + 1 + j ≡ i + suc j = omega arith in q) y.2)

  pub many_freed : (i : ℕ) (rs : List Record) → length (freed_records may d i rs) ≡ length rs
  many_freed i [] = refl
  many_freed i (r ∷ rs) = ap suc (many_freed (i + 1) rs)

  -- what is the same of each record is the same of all
  pub same_freed : {B : Type 0} (f : Record → B) (rs : List Record) → ((j : ℕ) (r x : Record) → At rs j r → WasFreed may d j r x → f x ≡ f r) → map f (freed_records may d 0 rs) ≡ map f rs
  same_freed {B = B} f rs same = same_from 0 rs (λ j r x at w. same j r x at (subst (λ (z : ℕ). WasFreed may d z r x) (let q : 0 + j ≡ j = omega arith in q) w))
    where
      same_from : (i : ℕ) (rs : List Record) → ((j : ℕ) (r x : Record) → At rs j r → WasFreed may d (i + j) r x → f x ≡ f r) → map f (freed_records may d i rs) ≡ map f rs
      same_from i [] h = refl
      same_from i (r ∷ rs) h = λ k. h 0 r (freed_record may d i r) refl (subst (λ (z : ℕ). WasFreed may d z r (freed_record may d i r)) (let q : i ≡ i + 0 = omega arith in q) (was_freed i r)) k
          ∷ same_from (i + 1) rs (λ j q x at w. h (suc j) q x at (subst (λ (z : ℕ). WasFreed may d z q x) (let q : i + 1 + j ≡ i + suc j = omega arith in q) w)) k

  -- another caller sees nothing of it
  other_share : (e i : ℕ) (r x : Record) → e ≢ d → WasFreed may d i r x → share e x ≡ share e r
  other_share e i r _ ne (went is free) = unseen_by d e (freed_standing r.generation) (record r { place = Of d (freed_standing r.generation) }) refl ne ∙ sym (unseen_by d e Limbo r is ne)
  other_share e i r _ ne (stayed k) = refl

  pub other_shares : (e : ℕ) (rs : List Record) → e ≢ d → map (share e) (freed_records may d 0 rs) ≡ map (share e) rs
  other_shares e rs ne = same_freed (share e) rs (λ j r x at w. other_share e j r x ne w)

  -- the caller sees what it knows
  known_freed : (r : Record) → (generation : ℕ) → share_of (freed_standing generation) r ≡ record (share_of Limbo r) { standing = freed_standing generation }
  known_freed r generation = by (eqb generation 1048575)
    where
      by : (b : Bool) → share_of (cond b Spent Free) r ≡ record (share_of Limbo r) { standing = cond b Spent Free }
      by true = refl
      by false = refl

  own_share : (i : ℕ) (r : Record) (s : Option Share) → share d r ≡ s → share d (freed_record may d i r) ≡ freed_of may i s
  own_share i r None e = by (goes_at may d i r.place r) refl
    where
      by : (b : Bool) → goes_at may d i r.place r ≡ b → share d (cond b (record r { place = Of d (freed_standing r.generation) }) r) ≡ None
      by true g = let x = went_at i r.place r g in let none : Some (share_of Limbo r) ≡ None = sym (seen_by d Limbo r x.0) ∙ e in let no_such : ⊥ = cc in absurd no_such
      by false g = e
  own_share i r (Some h) e = let x = has d r h e in by (goes_at may d i r.place r) (ap (λ (p : Place). goes_at may d i p r) x.0 ∙ mine h.standing) x
    where
      mine : (s : Standing) → goes_at may d i (Of d s) r ≡ leaves_limbo may i (share_of s r)
      mine s = by' (eqb d d) refl
        where
          by' : (b : Bool) → eqb d d ≡ b → (b && leaves_limbo may i (share_of s r)) ≡ leaves_limbo may i (share_of s r)
          by' true q = refl
          by' false q = absurd (eqb-false d d q refl)

      by : (b : Bool) → b ≡ leaves_limbo may i (share_of h.standing r) → (r.place ≡ Of d h.standing) × (h ≡ share_of h.standing r) → share d (cond b (record r { place = Of d (freed_standing r.generation) }) r) ≡ freed_of may i (Some h)
      by true g x = let is : leaves_limbo may i h ≡ true = ap (leaves_limbo may i) x.1 ∙ sym g in let lim = limbo_is h.standing (both (is_limbo h.standing) (may (limbo_share i h)) is).0 in
          let h_is : h ≡ share_of Limbo r = x.1 ∙ ap (λ (s : Standing). share_of s r) lim in
          seen_by d (freed_standing r.generation) (record r { place = Of d (freed_standing r.generation) }) refl ∙ ap (λ (z : Share). Some z) (known_freed r r.generation ∙ ap (λ (z : Share). record z { standing = freed_standing z.generation }) (sym h_is))
          ∙ ap (λ (b : Bool). Some (cond b (record h { standing = freed_standing h.generation }) h)) (sym is)
      by false g x = let is : leaves_limbo may i h ≡ false = ap (leaves_limbo may i) x.1 ∙ sym g in e ∙ ap (λ (b : Bool). Some (cond b (record h { standing = freed_standing h.generation }) h)) (sym is)

  pub own_shares : (i : ℕ) (rs : List Record) → map (share d) (freed_records may d i rs) ≡ freed_from may i (map (share d) rs)
  own_shares i [] = refl
  own_shares i (r ∷ rs) = λ k. own_share i r (share d r) refl k ∷ own_shares (i + 1) rs k

  -- no word changes, and nothing that the list of those taken out sees
  pub same_row : (i : ℕ) (r x : Record) → WasFreed may d i r x → x.row ≡ r.row
  same_row i r _ (went is free) = refl
  same_row i r _ (stayed k) = refl

  same_taken_cell : (i : ℕ) (r x : Record) → WasFreed may d i r x → taken_cell x ≡ taken_cell r
  same_taken_cell i r _ (went is free) = taken_of (eqb r.generation 1048575) ∙ sym (ap (λ (p : Place). taken_cell (record r { place = p })) is)
    where
      taken_of : (b : Bool) → taken_cell (record r { place = Of d (cond b Spent Free) }) ≡ taken_cell (record r { place = Of d Limbo })
      taken_of true = refl
      taken_of false = refl
  same_taken_cell i r _ (stayed k) = refl

  pub same_takings : (rs : List Record) → map taken_cell (freed_records may d 0 rs) ≡ map taken_cell rs
  same_takings rs = same_freed taken_cell rs (λ j r x at w. same_taken_cell j r x w)

  pub same_rows : (rs : List Record) → map (λ (r : Record). r.row) (freed_records may d 0 rs) ≡ map (λ (r : Record). r.row) rs
  same_rows rs = same_freed (λ (r : Record). r.row) rs (λ j r x at w. same_row j r x w)

  -- as a set sees it
  hidden_cell : (i : ℕ) (r x : Record) → WasFreed may d i r x → IsHidden (shape_cell r) (shape_cell x)
  hidden_cell i r _ (went is free) = subst (IsHidden (shape_cell r)) (gone (eqb r.generation 1048575)) (hides_ r.generation r.marked r.taken_number _ (ap (λ (p : Place). shape_cell (record r { place = p })) is))
    where
      gone : (b : Bool) → hidden ≡ shape_cell (record r { place = Of d (cond b Spent Free) })
      gone true = refl
      gone false = refl
  hidden_cell i r _ (stayed k) = keeps_

  limbo_here : (generation b n st q c : ℕ) (s : Standing) (r : Record) → scheme_had c s r ≡ limbo d generation b n st q → (c ≡ d) × (s ≡ Limbo) × (r.generation ≡ generation) × (birth r ≡ b) × (stamp r ≡ st)
  limbo_here generation b n st q c Limbo r e = let a : c ≡ d = cc in let x : r.generation ≡ generation = cc in let y : birth r ≡ b = cc in let z : stamp r ≡ st = cc in (a, refl, x, y, z)
  limbo_here generation b n st q c s r e = let none : ⊥ = cc in absurd none

  limbo_place : (generation b n st q : ℕ) (p : Place) (r : Record) → scheme_at p r ≡ limbo d generation b n st q → (p ≡ Of d Limbo) × (r.generation ≡ generation) × (birth r ≡ b) × (stamp r ≡ st)
  limbo_place generation b n st q (Of c s) r e = let x = limbo_here generation b n st q c s r e in ((λ j. Of (x.0 j) (x.1 j)), x.2, x.3, x.4)
  limbo_place generation b n st q p r e = let none : ⊥ = cc in absurd none

  -- and a reclaimer
  freed_cell : (i : ℕ) (r x : Record) → WasFreed may d i r x → IsFreed may d i (scheme_cell r) (scheme_cell x)
  freed_cell i r _ (went is free) = subst (IsFreed may d i (scheme_cell r)) (gone (eqb r.generation 1048575)) (goes r.generation (birth r) r.taken_number (stamp r) r.retired (ap (λ (p : Place). scheme_cell (record r { place = p })) is) (sym (ap may (same_test i r)) ∙ free))
    where
      gone : (b : Bool) → unseen ≡ scheme_cell (record r { place = Of d (cond b Spent Free) })
      gone true = refl
      gone false = refl

      same_test : (i : ℕ) (r : Record) → limbo_share i (share_of Limbo r) ≡ limbo_record i r.generation (birth r) (stamp r)
      same_test i r = λ k. record {
        reference = (limbo_record i r.generation (birth r) (stamp r)).reference;
        birth = number_in (get_or-take 3 r.row 0 0 (omega arith) k);
        stamp = number_in (get_or-take 3 r.row 2 0 (omega arith) k);
      }
  freed_cell i r _ (stayed k) = stays (λ generation b n st q is. let y = limbo_place generation b n st q r.place r is in
      ap may ((λ j. record { reference = refer (i + 1) (sym y.1 j); birth = (sym y.2 ∙ ap number_in (sym (get_or-take 3 r.row 0 0 (omega arith)))) j; stamp = (sym y.3 ∙ ap number_in (sym (get_or-take 3 r.row 2 0 (omega arith)))) j })) ∙ k y.0)

  -- the cells of all
  pub hidden_cells : (rs : List Record) → HiddenCells (map shape_cell rs) (map shape_cell (freed_records may d 0 rs))
  hidden_cells rs = record {
    many = length-map (freed_records may d 0 rs) shape_cell ∙ many_freed 0 rs ∙ sym (length-map rs shape_cell);
    each = λ i new at. let x = map_at shape_cell (freed_records may d 0 rs) i new at in let y = each_freed 0 rs i x.0 x.1 in
        (shape_cell y.0, at_map shape_cell rs i y.0 y.1, subst (IsHidden (shape_cell y.0)) x.2 (hidden_cell (0 + i) y.0 x.0 y.2));
  }

  pub freed_cells : (rs : List Record) → FreedCells may d (map scheme_cell rs) (map scheme_cell (freed_records may d 0 rs))
  freed_cells rs = record {
    many = length-map (freed_records may d 0 rs) scheme_cell ∙ many_freed 0 rs ∙ sym (length-map rs scheme_cell);
    each = λ i new at. let x = map_at scheme_cell (freed_records may d 0 rs) i new at in let y = each_freed 0 rs i x.0 x.1 in
        (scheme_cell y.0, at_map scheme_cell rs i y.0 y.1, subst (IsFreed may d i (scheme_cell y.0)) x.2 (freed_cell i y.0 x.0 (subst (λ (z : ℕ). WasFreed may d z y.0 x.0) (let q : 0 + i ≡ i = omega arith in q) y.2)));
  }

  -- a record that a set sees, and that doesn't go, is seen as it was
  pub cell_stays : (rs : List Record) (i : ℕ) (cell : ShapeCell) → At (map shape_cell rs) i cell
      → ((generation b n st q : ℕ) → At (map scheme_cell rs) i (limbo d generation b n st q) → may (limbo_record i generation b st) ≡ true → ⊥) → At (map shape_cell (freed_records may d 0 rs)) i cell
  cell_stays rs i cell at stay = let y = map_at shape_cell rs i cell at in let x = at_below (freed_records may d 0 rs) i (let l = below_at rs i y.0 y.1 in let m = many_freed 0 rs in omega arith) in let z = each_freed 0 rs i x.0 x.1 in
      by y.0 y.1 y.2 x.0 x.1 (subst (λ (q : ℕ × Record). WasFreed may d q.0 q.1 x.0) (λ k. ((let q : 0 + i ≡ i = omega arith in q) k, one_at rs i z.0 y.0 z.1 y.1 k)) z.2)
    where
      by : (r : Record) → At rs i r → shape_cell r ≡ cell → (x : Record) → At (freed_records may d 0 rs) i x → WasFreed may d i r x → At (map shape_cell (freed_records may d 0 rs)) i cell
      by r here is x there (went place free) = absurd (stay r.generation (birth r) r.taken_number (stamp r) r.retired (at_map scheme_cell rs i r here ∙ ap some (ap (λ (p : Place). scheme_cell (record r { place = p })) place)) (test_is i r ∙ free))
        where
          test_is : (i : ℕ) (r : Record) → may (limbo_record i r.generation (birth r) (stamp r)) ≡ may (limbo_share i (share_of Limbo r))
          test_is i r = ap may (λ k. record { reference = refer (i + 1) r.generation; birth = number_in (sym (get_or-take 3 r.row 0 0 (omega arith)) k); stamp = number_in (sym (get_or-take 3 r.row 2 0 (omega arith)) k) })
      by r here is x there (stayed k) = at_map shape_cell (freed_records may d 0 rs) i r there ∙ ap some is
