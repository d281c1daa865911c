-- The words, the records and the books of the table as it is made.
use Rattle.row_words.specs.Refs.{LinkParts}
use Rattle.std.proofs.Common.{◌≡◌, ℕ, zero, suc, ◌+◌, ◌-◌, ◌*◌, ◌/◌, ◌<◌, ◌≤◌, List, ◌∷◌, ◌++◌, map, length, get_or, take, drop, replicate, length-append, sym, refl, ap, ◌∙◌, arith, ⊎_elim, None, subst}
use Rattle.std.proofs.lemmas.List.{append_assoc, map-append, length-replicate, length-take, take_at, drop_at, get_or_append_left, get_or-replicate, get_or-take, get_or-drop, get_or_past, replicate-append-replicate}
use mathlib.Core.Logic.{dite}
use native.Mathlib.Decide.{dec_le}
use native.Mathlib.Nat.{suc-add, zero-add}
use mathlib.Core.Option.{some, some-injective, some-ne-none}
use lib.ListN.{get_elem?}
use Rattle.set_model.specs.declared.names.AllocatorName.{AllocatorName}
use Rattle.set_model.specs.declared.names.AllocatorName.TheVariants.{Bump, Once}
use Rattle.record_memory.specs.declared.books.Setup.{Setup}
use Rattle.record_memory.specs.declared.books.Book.{Book}
use Rattle.record_memory.specs.Memory.{memory, size, controls, rows_in, stretch}
use Rattle.record_rule.specs.Records.{Record, share, blank_row, IsSetup, IsSound}
use Rattle.record_memory.specs.declared.books.Guard.{Guard}
use Rattle.record_rule.specs.World.{IsLeftBy, range}
use Rattle.record_rule.specs.Opening.{root_row, rows_of, opening_controls, opening_words, first_book, first_books, root_record, blank_record, opening_records}
use Rattle.record_rule.proofs.Lists.{map-replicate}
use Rattle.row_words.specs.Packing.{own_in, packed_number, packed_link, packed_ref, IsPackedLink, link_in}
use Rattle.row_words.proofs.Packed.{own_in-packed_key, own_in-packed_number, is_packed_link, link_in-packed_link}

-- so many rows are eight times as many words
length-rows_of : (n : ℕ) (row : List ℕ) → length row ≡ 8 → length (rows_of n row) ≡ 8 * n
length-rows_of zero row h = omega arith
length-rows_of (suc n) row h = let e = length-append row (rows_of n row) in let k = length-rows_of n row h in omega arith

-- rows at the front of a list of words are read as rows
rows_in-rows_of : (n k : ℕ) (row ws : List ℕ) → length row ≡ 8 → rows_in (n + k) (rows_of n row ++ ws) ≡ replicate n row ++ rows_in k ws
rows_in-rows_of zero k row ws h = ap (λ (z : ℕ). rows_in z ws) (zero-add k)
rows_in-rows_of (suc n) k row ws h =
    ap (λ (z : ℕ). rows_in z (rows_of (suc n) row ++ ws)) (suc-add n k)
    ∙ ap (λ (z : List ℕ). take 8 z ∷ rows_in (n + k) (drop 8 z)) (append_assoc row (rows_of n row) ws)
    ∙ (λ i. take_at row (rows_of n row ++ ws) 8 h i ∷ rows_in (n + k) (drop_at row (rows_of n row ++ ws) 8 h i))
    ∙ ap (λ (z : List (List ℕ)). row ∷ z) (rows_in-rows_of n k row ws h)

-- and so are rows alone
no_more : (k : ℕ) (row : List ℕ) → length row ≡ 8 → rows_in k (rows_of k row) ≡ replicate k row
no_more zero row h = refl
no_more (suc k) row h = (λ i. take_at row (rows_of k row) 8 h i ∷ rows_in k (drop_at row (rows_of k row) 8 h i)) ∙ ap (λ (z : List (List ℕ)). row ∷ z) (no_more k row h)

module _ (setup : Setup) (first : Guard) where
  -- the books are those of the callers in order
  pub at_books : (c n p : ℕ) (b : Book) → get_elem? (first_books setup first c n) p ≡ some b → (p < n) × (first_book setup first (c + p) ≡ b)
  at_books c zero p b e = absurd (some-ne-none b (sym e))
  at_books c (suc n) zero b e = (omega arith, ap (first_book setup first) (let z : c + 0 ≡ c = omega arith in z) ∙ some-injective (first_book setup first c) b e)
  at_books c (suc n) (suc p) b e = let h = at_books (c + 1) n p b e in (omega (arith, h.0), ap (first_book setup first) (let z : c + suc p ≡ c + 1 + p = omega arith in z) ∙ h.1)

  -- and each caller has one
  pub books_at : (c n p : ℕ) → p < n → get_elem? (first_books setup first c n) p ≡ some (first_book setup first (c + p))
  books_at c zero p h = absurd (omega arith)
  books_at c (suc n) zero h = ap (λ (z : ℕ). some (first_book setup first z)) (let z : c ≡ c + 0 = omega arith in z)
  books_at c (suc n) (suc p) h = books_at (c + 1) n p (omega arith) ∙ ap (λ (z : ℕ). some (first_book setup first z)) (let z : c + 1 + p ≡ c + suc p = omega arith in z)

  -- there are so many
  pub length-books : (c n : ℕ) → length (first_books setup first c n) ≡ n
  length-books c zero = refl
  length-books c (suc n) = ap suc (length-books (c + 1) n)

  -- what all have in common
  pub map_books : {A : Type 0} (f : Book → A) (a : A) → ((c : ℕ) → f (first_book setup first c) ≡ a) → (c n : ℕ) → map f (first_books setup first c n) ≡ replicate n a
  map_books f a each c zero = refl
  map_books f a each c (suc n) = λ k. each c k ∷ map_books f a each (c + 1) n k

module _ (setup : Setup) where
  -- the words behind the control words
  abbrev pub rest : List ℕ
  rest = rows_of setup.roots (root_row setup.first) ++ rows_of (setup.records - setup.roots) (blank_row setup.first)

  -- there are as many control words as there should be
  length-controls : length (opening_controls setup) ≡ controls setup.callers
  length-controls = let e : length {A = ℕ} (replicate (controls setup.callers - 2) 0) ≡ controls setup.callers - 2 = length-replicate (controls setup.callers - 2) 0 in omega arith

  -- each of them but the first two is 0
  pub zero_at : (j : ℕ) → 2 ≤ j → j < controls setup.callers → get_or (opening_words setup) j 0 ≡ 0
  zero_at j low high = let k : ℕ = j - 2 in let e : j ≡ suc (suc k) = omega arith in
      get_or_append_left (opening_controls setup) rest 0 j (let l = length-controls in omega arith)
      ∙ ap (λ (z : ℕ). get_or (opening_controls setup) z 0) e ∙ get_or-replicate (controls setup.callers - 2) k 0 0 (omega arith)

  -- no cursor has moved
  zero_cursor : (k : ℕ) → get_or (stretch (20 + 4 * setup.callers) setup.callers (opening_words setup)) k 0 ≡ 0
  zero_cursor k = let from : ℕ = 20 + 4 * setup.callers in dite (dec_le setup.callers k)
      (λ past. get_or_past (stretch from setup.callers (opening_words setup)) k 0 (let e = length-take setup.callers (drop from (opening_words setup)) in omega arith))
      (λ below. get_or-take setup.callers (drop from (opening_words setup)) k 0 (omega arith) ∙ get_or-drop from (opening_words setup) k 0 ∙ zero_at (from + k) (omega arith) (omega arith))

  -- the row of a root has eight words
  root_eight : length (root_row setup.first) ≡ 8
  root_eight = refl

  -- and so has a blank one
  blank_eight : length (blank_row setup.first) ≡ 8
  blank_eight = refl

  -- the words behind the control words are the rows of the records
  pub rows_are : setup.roots ≤ setup.records → rows_in setup.records (drop (controls setup.callers) (opening_words setup)) ≡ map (λ (r : Record). r.row) (opening_records setup)
  rows_are fits = let a : ℕ = setup.roots in let b : ℕ = setup.records - setup.roots in let blanks = rows_of b (blank_row setup.first) in
      ap (rows_in setup.records) (drop_at (opening_controls setup) rest (controls setup.callers) length-controls)
      ∙ ap (λ (z : ℕ). rows_in z rest) (let e : setup.records ≡ a + b = omega arith in e)
      ∙ rows_in-rows_of a b (root_row setup.first) blanks root_eight
      ∙ ap (λ (z : List (List ℕ)). replicate a (root_row setup.first) ++ z) (no_more b (blank_row setup.first) blank_eight)
      ∙ sym (map-append (λ (r : Record). r.row) (replicate a (root_record setup.first)) (replicate b (blank_record setup.first))
      ∙ (λ k. map-replicate (λ (r : Record). r.row) a (root_record setup.first) k ++ map-replicate (λ (r : Record). r.row) b (blank_record setup.first) k))

  -- the words are as many as the setup says
  pub wide_is : setup.roots ≤ setup.records → length (opening_words setup) ≡ size setup.callers setup.records
  wide_is fits = let a = length-append (opening_controls setup) rest in let b = length-append (rows_of setup.roots (root_row setup.first)) (rows_of (setup.records - setup.roots) (blank_row setup.first)) in let c = length-controls in
      let d = length-rows_of setup.roots (root_row setup.first) root_eight in let e = length-rows_of (setup.records - setup.roots) (blank_row setup.first) blank_eight in omega arith

  -- no record but the roots is drawn
  pub left_opening : (a : AllocatorName) (i : ℕ) → setup.roots ≤ i → IsLeftBy a setup (memory setup.callers setup.records (opening_words setup)) i
  unfolding memory
  left_opening Bump i h = h
  left_opening Once i h = (h, let e = zero_cursor ((i - setup.roots) / range setup) in omega arith)

  -- and no root is left
  pub left_roots : (a : AllocatorName) (i : ℕ) → IsLeftBy a setup (memory setup.callers setup.records (opening_words setup)) i → setup.roots ≤ i
  unfolding memory
  left_roots Bump i h = h
  left_roots Once i h = h.0

  -- no caller has a record
  pub mine_is : (c : ℕ) → setup.roots ≤ setup.records → replicate setup.records None ≡ map (share c) (opening_records setup)
  mine_is c fits = sym (map-append (share c) (replicate setup.roots (root_record setup.first)) (replicate (setup.records - setup.roots) (blank_record setup.first))
      ∙ (λ k. map-replicate (share c) setup.roots (root_record setup.first) k ++ map-replicate (share c) (setup.records - setup.roots) (blank_record setup.first) k)
      ∙ replicate-append-replicate setup.roots (setup.records - setup.roots) None ∙ ap (λ (z : ℕ). replicate z None) (let e : setup.roots + (setup.records - setup.roots) ≡ setup.records = omega arith in e))

-- a packed number 0 is a packed link too
pub packed_zero : (own : ℕ) → IsPackedLink (packed_number own 0)
unfolding packed_number packed_link packed_ref
packed_zero own = is_packed_link (packed_number own 0) own (record { flags = 0; target = None }) (record { flags = omega arith; target = tt }) (omega arith)

-- each word of a root carries the first generation
root_words : (first f : ℕ) → f < 8 → own_in (get_or (root_row first) f 0) ≡ first
root_words first zero h = own_in-packed_number first 0 (omega arith)
root_words first (suc zero) h = own_in-packed_number first 0 (omega arith)
root_words first (suc (suc zero)) h = own_in-packed_number first 0 (omega arith)
root_words first (suc (suc (suc zero))) h = own_in-packed_number first 0 (omega arith)
root_words first (suc (suc (suc (suc zero)))) h = own_in-packed_key first 1 0 (omega arith) (omega arith)
root_words first (suc (suc (suc (suc (suc f))))) h = ap own_in (get_or-replicate 3 f (packed_number first 0) 0 (omega arith)) ∙ own_in-packed_number first 0 (omega arith)

-- without flags
zero_link : (own : ℕ) → packed_number own 0 ≡ packed_link own (record { flags = 0; target = None })
unfolding packed_number packed_link packed_ref
zero_link own = omega arith

pub zero_flags : (own : ℕ) → (link_in (packed_number own 0)).flags ≡ 0
zero_flags own = ap (λ (n : ℕ). (link_in n).flags) (zero_link own) ∙ ap (λ (l : LinkParts). l.flags) (link_in-packed_link own (record { flags = 0; target = None }) (record { flags = omega arith; target = tt }))

module _ (setup : Setup) (ok : IsSetup setup) where
  -- a root is sound
  pub root_sound : (i : ℕ) → i < setup.roots → IsSound setup i (root_record setup.first)
  root_sound i h = record {
    eight = refl;
    generations = root_words setup.first;
    links = λ f is. (
      ⊎_elim (λ e. subst (λ (z : ℕ). IsPackedLink (get_or (root_row setup.first) z 0)) (sym e) (packed_zero setup.first)) (λ e. subst (λ (z : ℕ). IsPackedLink (get_or (root_row setup.first) z 0)) (sym e) (packed_zero setup.first)) is,
      λ one. ap
          (λ (z : ℕ). (link_in (get_or (root_row setup.first) z 0)).flags) one ∙ zero_flags setup.first,
    );
    within = ok.first;
    roots = λ _. refl;
    no_root = λ _. h;
    root_generation = λ _. refl;
    unborn = λ e. let none : ⊥ = cc in absurd none;
    blank = λ e. let none : ⊥ = cc in absurd none;
    born = λ _. omega arith;
    unfinished = λ c n e. let none : ⊥ = cc in absurd none;
    callers = λ c t e. let none : ⊥ = cc in absurd none;
    renewable = λ c e. let none : ⊥ = cc in absurd none;
    shelved = λ k e. let none : ⊥ = cc in absurd none;
  }

  -- and so is each other record
  pub blank_sound : (i : ℕ) → setup.roots ≤ i → IsSound setup i (blank_record setup.first)
  blank_sound i h = record {
    eight = refl;
    generations = λ f lt. ap own_in (get_or-replicate 8 f (packed_number (setup.first - 1) 0) 0 lt) ∙ own_in-packed_number (setup.first - 1) 0 (omega arith);
    links = λ f is. (
      subst IsPackedLink (sym (get_or-replicate 8 f (packed_number (setup.first - 1) 0) 0 (⊎_elim (λ e. omega arith) (λ e. omega arith) is))) (packed_zero (setup.first - 1)),
      λ one. ap (λ (z : ℕ). (link_in (get_or (blank_row setup.first) z 0)).flags) one
          ∙ zero_flags (setup.first - 1),
    );
    within = let e = ok.first in omega arith;
    roots = λ lt. absurd (omega arith);
    no_root = λ e. let none : ⊥ = cc in absurd none;
    root_generation = λ e. let none : ⊥ = cc in absurd none;
    unborn = λ e. let p = ok.some_first in omega arith;
    blank = λ _. refl;
    born = λ ne. absurd (ne refl);
    unfinished = λ c n e. let none : ⊥ = cc in absurd none;
    callers = λ c t e. let none : ⊥ = cc in absurd none;
    renewable = λ c e. let none : ⊥ = cc in absurd none;
    shelved = λ k e. let none : ⊥ = cc in absurd none;
  }
