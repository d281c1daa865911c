-- What a load from each kind of word gives and what a store to it does, in the reading of the flat words. The one place where it matters where a word lies.
use Rattle.std.proofs.Common.{◌≡◌, ℕ, zero, suc, ◌+◌, ◌-◌, ◌*◌, ◌/◌, ◌%◌, ◌<◌, ◌≤◌, ◌≢◌, List, [], ◌∷◌, length, get_or, take, drop, set, sym, refl, ap, ◌∙◌, arith, get_or-set_other, get_or-set_same, Bool, true, false, cond, eqb, ltb}
use Rattle.std.proofs.lemmas.Bool.{eqb-true, eqb-false, ltb-true, ltb-false}
use Rattle.std.proofs.lemmas.List.{drop-set-lt, drop-set-add, take-set-le, get_or-take, get_or-drop}
use Rattle.record_memory.specs.declared.steps.Word.{Word}
use Rattle.record_memory.specs.declared.steps.Word.TheVariants.{Drawn, Epoch, Lock, Blank, Shelf, Announced, Cursor, Field}
use Rattle.record_memory.specs.Memory.{Memory, stretch, rows_in, address, word_at, size, memory, IsWord, fetch, put}

-- a store before a stretch, behind it and in it
pub stretch_before : (start count i v : ℕ) (ws : List ℕ) → i < start → stretch start count (set ws i v) ≡ stretch start count ws
stretch_before start count i v ws h = ap (take count) (drop-set-lt start ws i v h)

pub take-set : (n i v : ℕ) (ws : List ℕ) → i < n → take n (set ws i v) ≡ set (take n ws) i v
take-set zero i v ws h = absurd (omega arith)
take-set (suc n) i v [] h = refl
take-set (suc n) zero v (x ∷ xs) h = refl
take-set (suc n) (suc i) v (x ∷ xs) h = ap (λ (r : List ℕ). x ∷ r) (take-set n i v xs (omega arith))

pub drop-set_from : (start i v : ℕ) (ws : List ℕ) → start ≤ i → drop start (set ws i v) ≡ set (drop start ws) (i - start) v
drop-set_from start i v ws h = let e : i ≡ start + (i - start) = omega arith in ap (λ (k : ℕ). drop start (set ws k v)) e ∙ drop-set-add start ws (i - start) v

pub stretch_behind : (start count i v : ℕ) (ws : List ℕ) → start + count ≤ i → stretch start count (set ws i v) ≡ stretch start count ws
stretch_behind start count i v ws h = ap (take count) (drop-set_from start i v ws (omega arith)) ∙ take-set-le count (drop start ws) (i - start) v (omega arith)

pub stretch_in : (start count k v : ℕ) (ws : List ℕ) → k < count → stretch start count (set ws (start + k) v) ≡ set (stretch start count ws) k v
stretch_in start count k v ws h = ap (take count) (drop-set-add start ws k v) ∙ take-set count k v (drop start ws) h

-- rows
rows_before : (start count i v : ℕ) (ws : List ℕ) → i < start → rows_in count (drop start (set ws i v)) ≡ rows_in count (drop start ws)
rows_before start count i v ws h = ap (rows_in count) (drop-set-lt start ws i v h)

rows_set : (count i f v : ℕ) (ws : List ℕ) → i < count → f < 8 → rows_in count (set ws (8 * i + f) v) ≡ set (rows_in count ws) i (set (get_or (rows_in count ws) i []) f v)
rows_set zero i f v ws h g = absurd (omega arith)
rows_set (suc count) zero f v ws h g = let e : 8 * 0 + f ≡ f = omega arith in
    ap (λ (k : ℕ). rows_in (suc count) (set ws k v)) e ∙ (λ k. take-set 8 f v ws g k ∷ rows_in count (drop-set-lt 8 ws f v g k))
rows_set (suc count) (suc i) f v ws h g = let e : 8 * suc i + f ≡ 8 + (8 * i + f) = omega arith in
    ap (λ (k : ℕ). rows_in (suc count) (set ws k v)) e
    ∙ (λ k. take-set-le 8 ws (8 + (8 * i + f)) v (omega arith) k ∷ rows_in count (drop-set-add 8 ws (8 * i + f) v k))
    ∙ ap (λ (r : List (List ℕ)). take 8 ws ∷ r) (rows_set count i f v (drop 8 ws) (omega arith) g)

rows_get : (count i f : ℕ) (ws : List ℕ) → i < count → f < 8 → get_or (get_or (rows_in count ws) i []) f 0 ≡ get_or ws (8 * i + f) 0
rows_get zero i f ws h g = absurd (omega arith)
rows_get (suc count) zero f ws h g = let e : 8 * 0 + f ≡ f = omega arith in get_or-take 8 ws f 0 g ∙ ap (λ (k : ℕ). get_or ws k 0) (sym e)
rows_get (suc count) (suc i) f ws h g = let e : 8 + (8 * i + f) ≡ 8 * suc i + f = omega arith in rows_get count i f (drop 8 ws) (omega arith) g ∙ get_or-drop 8 ws (8 * i + f) 0 ∙ ap (λ (k : ℕ). get_or ws k 0) e

module _ (n m : ℕ) where
  abbrev read : List ℕ → Memory
  read ws = memory n m ws

  -- a load
  pub loads : (ws : List ℕ) (w : Word) → IsWord n m w → get_or ws (address n w) 0 ≡ fetch (memory n m ws) w
  unfolding memory
  loads ws Drawn h = refl
  loads ws Epoch h = refl
  loads ws Lock h = refl
  loads ws Blank h = refl
  loads ws (Shelf k) h = sym (get_or-take 16 (drop 4 ws) k 0 h ∙ get_or-drop 4 ws k 0)
  loads ws (Announced k) h = sym (get_or-take (4 * n) (drop 20 ws) k 0 h ∙ get_or-drop 20 ws k 0)
  loads ws (Cursor c) h = sym (get_or-take n (drop (20 + 4 * n) ws) c 0 h ∙ get_or-drop (20 + 4 * n) ws c 0)
  loads ws (Field i f) h = let e : 20 + 5 * n + 8 * (i - 1) + f ≡ 20 + 5 * n + (8 * (i - 1) + f) = omega arith in
      ap (λ (k : ℕ). get_or ws k 0) e ∙ sym (rows_get m (i - 1) f (drop (20 + 5 * n) ws) (omega arith) h.2 ∙ get_or-drop (20 + 5 * n) ws (8 * (i - 1) + f) 0)

  -- another word than the one that a store reaches
  other : (ws : List ℕ) (i v j : ℕ) → j ≢ i → get_or (set ws i v) j 0 ≡ get_or ws j 0
  other ws i v j h = get_or-set_other ws i j v 0 h

  -- a store
  pub stores : (ws : List ℕ) (w : Word) (v : ℕ) → length ws ≡ size n m → IsWord n m w → memory n m (set ws (address n w) v) ≡ put (memory n m ws) w v
  unfolding memory
  stores ws Drawn v l h = λ k. record {
    drawn = get_or-set_same ws 0 v 0 (omega arith) k;
    epoch = other ws 0 v 1 (λ e. omega arith) k;
    lock = other ws 0 v 2 (λ e. omega arith) k;
    blank = other ws 0 v 3 (λ e. omega arith) k;
    shelves = stretch_before 4 16 0 v ws (omega arith) k;
    announced = stretch_before 20 (4 * n) 0 v ws (omega arith) k;
    cursors = stretch_before (20 + 4 * n) n 0 v ws (omega arith) k;
    rows = rows_before (20 + 5 * n) m 0 v ws (omega arith) k;
  }
  stores ws Epoch v l h = λ k. record {
    drawn = other ws 1 v 0 (λ e. omega arith) k;
    epoch = get_or-set_same ws 1 v 0 (omega arith) k;
    lock = other ws 1 v 2 (λ e. omega arith) k;
    blank = other ws 1 v 3 (λ e. omega arith) k;
    shelves = stretch_before 4 16 1 v ws (omega arith) k;
    announced = stretch_before 20 (4 * n) 1 v ws (omega arith) k;
    cursors = stretch_before (20 + 4 * n) n 1 v ws (omega arith) k;
    rows = rows_before (20 + 5 * n) m 1 v ws (omega arith) k;
  }
  stores ws Lock v l h = λ k. record {
    drawn = other ws 2 v 0 (λ e. omega arith) k;
    epoch = other ws 2 v 1 (λ e. omega arith) k;
    lock = get_or-set_same ws 2 v 0 (omega arith) k;
    blank = other ws 2 v 3 (λ e. omega arith) k;
    shelves = stretch_before 4 16 2 v ws (omega arith) k;
    announced = stretch_before 20 (4 * n) 2 v ws (omega arith) k;
    cursors = stretch_before (20 + 4 * n) n 2 v ws (omega arith) k;
    rows = rows_before (20 + 5 * n) m 2 v ws (omega arith) k;
  }
  stores ws Blank v l h = λ k. record {
    drawn = other ws 3 v 0 (λ e. omega arith) k;
    epoch = other ws 3 v 1 (λ e. omega arith) k;
    lock = other ws 3 v 2 (λ e. omega arith) k;
    blank = get_or-set_same ws 3 v 0 (omega arith) k;
    shelves = stretch_before 4 16 3 v ws (omega arith) k;
    announced = stretch_before 20 (4 * n) 3 v ws (omega arith) k;
    cursors = stretch_before (20 + 4 * n) n 3 v ws (omega arith) k;
    rows = rows_before (20 + 5 * n) m 3 v ws (omega arith) k;
  }
  stores ws (Shelf j) v l h = λ k. record {
    drawn = other ws (4 + j) v 0 (λ e. omega arith) k;
    epoch = other ws (4 + j) v 1 (λ e. omega arith) k;
    lock = other ws (4 + j) v 2 (λ e. omega arith) k;
    blank = other ws (4 + j) v 3 (λ e. omega arith) k;
    shelves = stretch_in 4 16 j v ws h k;
    announced = stretch_before 20 (4 * n) (4 + j) v ws (omega arith) k;
    cursors = stretch_before (20 + 4 * n) n (4 + j) v ws (omega arith) k;
    rows = rows_before (20 + 5 * n) m (4 + j) v ws (omega arith) k;
  }
  stores ws (Announced j) v l h = λ k. record {
    drawn = other ws (20 + j) v 0 (λ e. omega arith) k;
    epoch = other ws (20 + j) v 1 (λ e. omega arith) k;
    lock = other ws (20 + j) v 2 (λ e. omega arith) k;
    blank = other ws (20 + j) v 3 (λ e. omega arith) k;
    shelves = stretch_behind 4 16 (20 + j) v ws (omega arith) k;
    announced = stretch_in 20 (4 * n) j v ws h k;
    cursors = stretch_before (20 + 4 * n) n (20 + j) v ws (omega arith) k;
    rows = rows_before (20 + 5 * n) m (20 + j) v ws (omega arith) k;
  }
  stores ws (Cursor j) v l h = let i : ℕ = 20 + 4 * n + j in λ k. record {
    drawn = other ws i v 0 (λ e. omega arith) k;
    epoch = other ws i v 1 (λ e. omega arith) k;
    lock = other ws i v 2 (λ e. omega arith) k;
    blank = other ws i v 3 (λ e. omega arith) k;
    shelves = stretch_behind 4 16 i v ws (omega arith) k;
    announced = stretch_behind 20 (4 * n) i v ws (omega arith) k;
    cursors = stretch_in (20 + 4 * n) n j v ws h k;
    rows = rows_before (20 + 5 * n) m i v ws (omega arith) k;
  }
  stores ws (Field r f) v l h = let i : ℕ = 20 + 5 * n + 8 * (r - 1) + f in let e : i - (20 + 5 * n) ≡ 8 * (r - 1) + f = omega arith in λ k. record {
    drawn = other ws i v 0 (λ e. omega arith) k;
    epoch = other ws i v 1 (λ e. omega arith) k;
    lock = other ws i v 2 (λ e. omega arith) k;
    blank = other ws i v 3 (λ e. omega arith) k;
    shelves = stretch_behind 4 16 i v ws (omega arith) k;
    announced = stretch_behind 20 (4 * n) i v ws (omega arith) k;
    cursors = stretch_behind (20 + 4 * n) n i v ws (omega arith) k;
    rows = (ap (rows_in m) (drop-set_from (20 + 5 * n) i v ws (omega arith) ∙ ap (λ (j : ℕ). set (drop (20 + 5 * n) ws) j v) e) ∙ rows_set m (r - 1) f v (drop (20 + 5 * n) ws) (omega arith) h.2) k;
  }

  by_test : (b : Bool) (F : Word → Type 0) (x y : Word) → (b ≡ true → F x) → (b ≡ false → F y) → F (cond b x y)
  by_test true F x y t e = t refl
  by_test false F x y t e = e refl

  -- a word by its place
  word_by : (F : Word → Type 0) (w : ℕ) → (w ≡ 0 → F Drawn) → (w ≡ 1 → F Epoch) → (w ≡ 2 → F Lock) → (w ≡ 3 → F Blank) → (4 ≤ w → w < 20 → F (Shelf (w - 4))) → (20 ≤ w → w < 20 + 4 * n → F (Announced (w - 20)))
      → (20 + 4 * n ≤ w → w < 20 + 5 * n → F (Cursor (w - (20 + 4 * n)))) → (20 + 5 * n ≤ w → F (Field ((w - (20 + 5 * n)) / 8 + 1) ((w - (20 + 5 * n)) % 8))) → F (word_at n w)
  word_by F w a b c d e f g r =
      by_test (eqb w 0) F Drawn _ (λ t. a (eqb-true w 0 t)) (λ n0. by_test (eqb w 1) F Epoch _ (λ t. b (eqb-true w 1 t)) (λ n1. by_test (eqb w 2) F Lock _ (λ t. c (eqb-true w 2 t)) (λ n2. by_test (eqb w 3) F Blank _ (λ t. d (eqb-true w 3 t)) (λ n3.
      let z0 = eqb-false w 0 n0 in let z1 = eqb-false w 1 n1 in let z2 = eqb-false w 2 n2 in let z3 = eqb-false w 3 n3 in
      by_test (ltb w 20) F _ _ (λ t. e (omega arith) (ltb-true w 20 t)) (λ u. by_test (ltb w (20 + 4 * n)) F _ _ (λ t. f (ltb-false w 20 u) (ltb-true w (20 + 4 * n) t))
      (λ v. by_test (ltb w (20 + 5 * n)) F _ _ (λ t. g (ltb-false w (20 + 4 * n) v) (ltb-true w (20 + 5 * n) t)) (λ x. r (ltb-false w (20 + 5 * n) x))))))))

  -- each word of the table lies at its own place
  pub is_word : (w : ℕ) → w < size n m → IsWord n m (word_at n w)
  is_word w h = word_by (IsWord n m) w (λ _. tt) (λ _. tt) (λ _. tt) (λ _. tt) (λ a b. omega arith) (λ a b. omega arith) (λ a b. omega arith) (λ a. (omega arith, omega arith, omega arith))

  pub address-word_at : (w : ℕ) → address n (word_at n w) ≡ w
  address-word_at w = word_by (λ x. address n x ≡ w) w sym sym sym sym (λ a b. omega arith) (λ a b. omega arith) (λ a b. omega arith) (λ a. omega arith)

  -- a caller's cursor
  pub word_at-cursor : (c : ℕ) → c < n → word_at n (20 + 4 * n + c) ≡ Cursor c
  word_at-cursor c h = let w : ℕ = 20 + 4 * n + c in
      word_by (λ x. x ≡ Cursor c) w (λ e. absurd (omega arith)) (λ e. absurd (omega arith)) (λ e. absurd (omega arith)) (λ e. absurd (omega arith)) (λ a b. absurd (omega arith)) (λ a b. absurd (omega arith))
      (λ a b. let k : w - (20 + 4 * n) ≡ c = omega arith in λ t. Cursor (k t)) (λ a. absurd (omega arith))

  -- a word of a record
  pub word_at-field : (i f : ℕ) → 0 < i → f < 8 → word_at n (20 + 5 * n + 8 * (i - 1) + f) ≡ Field i f
  word_at-field i f h g = let w : ℕ = 20 + 5 * n + 8 * (i - 1) + f in
      word_by (λ x. x ≡ Field i f) w (λ e. absurd (omega arith)) (λ e. absurd (omega arith)) (λ e. absurd (omega arith)) (λ e. absurd (omega arith)) (λ a b. absurd (omega arith)) (λ a b. absurd (omega arith)) (λ a b. absurd (omega arith))
      (λ a. let k : (w - (20 + 5 * n)) / 8 + 1 ≡ i = omega arith in let l : (w - (20 + 5 * n)) % 8 ≡ f = omega arith in λ t. Field (k t) (l t))

  -- a word of a record that a table has lies in the table
  pub field_lies : (i f : ℕ) → 0 < i → i ≤ m → f < 8 → 20 + 5 * n + 8 * (i - 1) + f < size n m
  field_lies i f h g k = omega arith
