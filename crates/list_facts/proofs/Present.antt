-- Which keys the cells of a list have and which records are marked there, after one cell was set.
use Rattle.std.proofs.Common.{◌≡◌, ◌≢◌, ℕ, ◌+◌, ◌≤◌, ◌⊎◌, List, set, count_by, Bool, cond, sym, refl, ap, ◌∙◌, subst, arith, inl, inr, ⊎_elim}
use Rattle.std.proofs.lemmas.Bool.{cases_eq}
use Rattle.std.proofs.lemmas.List.Sums.{sum_by-set}
use Rattle.atomic_table.proofs.Lists.{at_set, set_here, set_else}
use Rattle.record_rule.specs.Inputs.{ShapeCell, hidden, root, linked, out}
use Rattle.record_rule.specs.Facts.{At, link_at, key_at, HasMark}
use Rattle.record_rule.proofs.Lists.{below_at, get_at, one_at}
use Rattle.list_facts.specs.Tellings.{IsPresent, IsMarked, still, gone}

-- how many entries pass a test, after one was set
pub count_set : {A : Type 0} (test : A → Bool) (l : List A) (i : ℕ) (a b : A) → At l i a → count_by test (set l i b) + cond (test a) 1 0 ≡ count_by test l + cond (test b) 1 0
count_set test l i a b at =
    ap (λ c. count_by test (set l i b) + cond (test c) 1 0) (sym (get_at l i a a at)) ∙ sum_by-set (λ c. cond (test c) 1 0) l i b a (below_at l i a at)

-- the cell is a linked record without a mark, with this key
abbrev pub HasKey : ShapeCell → ℕ → Type 0
HasKey hidden k = ⊥
HasKey (root generation body m) k = ⊥
HasKey (linked generation body m) k = (¬ HasMark (link_at body 3)) × (key_at body ≡ k)
HasKey (out generation body m n) k = ⊥

-- a cell has one key
pub one_key : (cell : ShapeCell) (k q : ℕ) → HasKey cell k → HasKey cell q → k ≡ q
one_key hidden k q a b = absurd a
one_key (root generation body m) k q a b = absurd a
one_key (linked generation body m) k q a b = sym a.1 ∙ b.1
one_key (out generation body m n) k q a b = absurd a

-- the cell is a record with this body, which is marked or was taken out, and its removal has this position
abbrev pub MarkedAs : ShapeCell → List ℕ → ℕ → Type 0
MarkedAs hidden body m = ⊥
MarkedAs (root generation b n) body m = ⊥
MarkedAs (linked generation b n) body m = HasMark (link_at b 3) × (b ≡ body) × (n ≡ m)
MarkedAs (out generation b n k) body m = (b ≡ body) × (n ≡ m)

-- a key is there where a cell has it
pub present_at : (cells : List ShapeCell) (i k : ℕ) (cell : ShapeCell) → At cells i cell → HasKey cell k → IsPresent cells k
present_at cells i k hidden at has = absurd has
present_at cells i k (root generation body m) at has = absurd has
present_at cells i k (linked generation body m) at has = (i, generation, m, body, at, has.0, has.1)
present_at cells i k (out generation body m n) at has = absurd has

-- where the cell is a record that was taken out, that was at this number or a later one
abbrev pub IsOutSince : ℕ → ShapeCell → Type 0
IsOutSince start hidden = Unit {0}
IsOutSince start (root generation body m) = Unit {0}
IsOutSince start (linked generation body m) = Unit {0}
IsOutSince start (out generation body m n) = start ≤ n

-- at whatever number it was
out_any : (cell : ShapeCell) → IsOutSince 0 cell
out_any hidden = tt
out_any (root generation body m) = tt
out_any (linked generation body m) = tt
out_any (out generation body m n) = omega arith

-- the cell of a marked record
marked_cell : {cells : List ShapeCell} {i m start : ℕ} {body : List ℕ} → IsMarked cells i body m start → (cell : ShapeCell) × At cells i cell × MarkedAs cell body m × IsOutSince start cell
marked_cell {i = i} {m = m} {body = body} (still generation at mark) = (linked generation body m, at, (mark, refl, refl), tt)
marked_cell {i = i} {m = m} {body = body} (gone generation n at late) = (out generation body m n, at, (refl, refl), late)

-- and back
pub marked_at : (cells : List ShapeCell) (i m start : ℕ) (body : List ℕ) (cell : ShapeCell) → At cells i cell → MarkedAs cell body m → IsOutSince start cell → IsMarked cells i body m start
marked_at cells i m start body hidden at is since = absurd is
marked_at cells i m start body (root generation b n) at is since = absurd is
marked_at cells i m start body (linked generation b n) at is since = subst (λ z. IsMarked cells i body z start) is.2 (subst (λ z. IsMarked cells i z n start) is.1 (still generation at is.0))
marked_at cells i m start body (out generation b n k) at is since = subst (λ z. IsMarked cells i body z start) is.1 (subst (λ z. IsMarked cells i z n start) is.0 (gone generation k at since))

module _ (cells : List ShapeCell) (i : ℕ) (a b : ShapeCell) (was : At cells i a) where
  -- the cell that was set
  here : At (set cells i b) i b
  here = set_here cells i b (below_at cells i a was)

  -- the cell that was set had the key that is present there
  pub key_there : (k : ℕ) (p : IsPresent cells k) → p.0 ≡ i → HasKey a k
  key_there k p e = subst (λ c. HasKey c k) (one_at cells i (linked p.1 p.3 p.2) a (subst (λ j. At cells j (linked p.1 p.3 p.2)) e p.4) was) (p.5, p.6)

  -- a key that another cell has is there still
  pub present_other : (j k : ℕ) (cell : ShapeCell) → j ≢ i → At cells j cell → HasKey cell k → IsPresent (set cells i b) k
  present_other j k cell other at has = present_at (set cells i b) j k cell (set_else cells i j b other ∙ at) has

  -- and one that the new cell has is
  pub present_here : (k : ℕ) → HasKey b k → IsPresent (set cells i b) k
  present_here k has = present_at (set cells i b) i k b here has

  -- a key is there where the new cell or another one has it
  pub present_set : (k : ℕ) → IsPresent (set cells i b) k → HasKey b k ⊎ ((j : ℕ) × (cell : ShapeCell) × (j ≢ i) × At cells j cell × HasKey cell k)
  present_set k p = ⊎_elim
      (λ t. inl (subst (λ c. HasKey c k) (sym t.1) (p.5, p.6)))
      (λ t. inr (p.0, linked p.1 p.3 p.2, t.0, t.1, (p.5, p.6)))
      (at_set cells i p.0 b (linked p.1 p.3 p.2) p.4)

  -- no key is lost where the new cell has those that the old one had
  pub present_more : ((k : ℕ) → HasKey a k → HasKey b k) → (k : ℕ) → IsPresent cells k → IsPresent (set cells i b) k
  present_more keeps k p = ⊎_elim
      (λ e. present_here k (keeps k (key_there k p e)))
      (λ other. present_other p.0 k (linked p.1 p.3 p.2) other p.4 (p.5, p.6))
      (cases_eq p.0 i)

  -- and none comes where the old one had those that the new one has
  pub present_less : ((k : ℕ) → HasKey b k → HasKey a k) → (k : ℕ) → IsPresent (set cells i b) k → IsPresent cells k
  present_less keeps k p = ⊎_elim
      (λ has. present_at cells i k a was (keeps k has))
      (λ t. present_at cells t.0 k t.1 t.3 t.4)
      (present_set k p)

  -- a record that is marked, and wasn't taken out before some start, is in the new cell or was there
  pub marked_since : (j m start : ℕ) (body : List ℕ) → IsMarked (set cells i b) j body m start → ((j ≡ i) × MarkedAs b body m × IsOutSince start b) ⊎ IsMarked cells j body m start
  marked_since j m start body p = let t = marked_cell p in ⊎_elim
      (λ e. inl (e.0, subst (λ c. MarkedAs c body m) (sym e.1) t.2, subst (IsOutSince start) (sym e.1) t.3))
      (λ e. inr (marked_at cells j m start body t.0 e.1 t.2 t.3))
      (at_set cells i j b t.0 t.1)

  -- so is one that is marked
  pub marked_set : (j m : ℕ) (body : List ℕ) → IsMarked (set cells i b) j body m 0 → ((j ≡ i) × MarkedAs b body m) ⊎ IsMarked cells j body m 0
  marked_set j m body p = ⊎_elim (λ e. inl (e.0, e.1)) inr (marked_since j m 0 body p)

  -- none is marked that wasn't, where the new cell has no mark that the old one hadn't
  pub marked_less : ((m : ℕ) (body : List ℕ) → MarkedAs b body m → MarkedAs a body m) → (j m : ℕ) (body : List ℕ) → IsMarked (set cells i b) j body m 0 → IsMarked cells j body m 0
  marked_less keeps j m body p = ⊎_elim
      (λ e. subst (λ z. IsMarked cells z body m 0) (sym e.0) (marked_at cells i m 0 body a was (keeps m body e.1) (out_any a)))
      (λ was. was)
      (marked_set j m body p)
