-- The callers' moves of records are the records', after one caller made a move of one record, or none.
use Rattle.std.proofs.Common.{◌≡◌, ℕ, ◌+◌, ◌-◌, List, set, sum_by, Bool, true, false, cond, eqb, sym, refl, ap, ◌∙◌, arith}
use Rattle.std.proofs.lemmas.List.Sums.{sum_by-set}
use mathlib.Core.Option.{some}
use lib.ListN.{get_elem?}
use Rattle.record_memory.specs.declared.books.Book.{Book}
use Rattle.record_memory.specs.declared.books.Moves.{Moves}
use Rattle.record_memory.specs.declared.books.Place.TheVariants.{Undrawn, Of}
use Rattle.record_memory.specs.declared.books.Standing.{Standing}
use Rattle.record_memory.specs.declared.books.Standing.TheVariants.{Handing, Own}
use Rattle.record_rule.specs.Records.{Record}
use Rattle.record_rule.specs.Kinds.{drew_one, gave_birth, moves_stored, standing_after}
use Rattle.record_rule.specs.Counts.{retired_had, freed_had, drawn_as, retired_as, freed_as, lives_before, was_drawn, times_retired, times_freed, drawn_by, reused_by, retired_by, freed_by, CountsFit}
use Rattle.record_rule.proofs.Lists.{below_at, get_at}

-- a sum over a list, after one entry was set
pub sum_set : {A : Type 0} (f : A → ℕ) (l : List A) (i : ℕ) (a b : A) → get_elem? l i ≡ some a → sum_by f (set l i b) + f a ≡ sum_by f l + f b
sum_set {A = A} f l i a b at = ap (λ (z : A). sum_by f (set l i b) + f z) (sym (get_at l i a a at)) ∙ sum_by-set f l i b a (below_at l i a at)

-- one caller's moves grew by what one record counts more
pub record Balances (first : ℕ) (m m' : Moves) (r r' : Record) : Type 0 where
  pub drawn : m'.drawn + was_drawn r ≡ m.drawn + was_drawn r'
  pub reused : m'.reused + lives_before first r ≡ m.reused + lives_before first r'
  pub retired : m'.retired + times_retired first r ≡ m.retired + times_retired first r'
  pub freed : m'.freed + times_freed first r ≡ m.freed + times_freed first r'

module _ (first : ℕ) (records : List Record) (books : List Book) (c : ℕ) (b own : Book) (at : get_elem? books c ≡ some b) (h : CountsFit first records books) where
  -- a step that moves no record
  pub counts_calm : own.moves ≡ b.moves → CountsFit first records (set books c own)
  counts_calm same = record {
    drawn = let e = sum_set drawn_by books c b own at in let f = ap (λ (m : Moves). m.drawn) same in let g = h.drawn in omega arith;
    reused = let e = sum_set reused_by books c b own at in let f = ap (λ (m : Moves). m.reused) same in let g = h.reused in omega arith;
    retired = let e = sum_set retired_by books c b own at in let f = ap (λ (m : Moves). m.retired) same in let g = h.retired in omega arith;
    freed = let e = sum_set freed_by books c b own at in let f = ap (λ (m : Moves). m.freed) same in let g = h.freed in omega arith;
  }

  -- a step that moves one
  pub counts_moved : (k : ℕ) (r r' : Record) → get_elem? records k ≡ some r → Balances first b.moves own.moves r r' → CountsFit first (set records k r') (set books c own)
  counts_moved k r r' there move = record {
    drawn = let e = sum_set drawn_by books c b own at in let f = sum_set was_drawn records k r r' there in let g = h.drawn in let d = move.drawn in omega arith;
    reused = let e = sum_set reused_by books c b own at in let f = sum_set (lives_before first) records k r r' there in let g = h.reused in let d = move.reused in omega arith;
    retired = let e = sum_set retired_by books c b own at in let f = sum_set (times_retired first) records k r r' there in let g = h.retired in let d = move.retired in omega arith;
    freed = let e = sum_set freed_by books c b own at in let f = sum_set (times_freed first) records k r r' there in let g = h.freed in let d = move.freed in omega arith;
  }

-- a record that is where it was, at its generation
pub counts_seen : (first : ℕ) (records : List Record) (books : List Book) (k : ℕ) (r r' : Record) → get_elem? records k ≡ some r → r'.place ≡ r.place → r'.generation ≡ r.generation → CountsFit first records books → CountsFit first (set records k r') books
counts_seen first records books k r r' there place generation h = let e = ap (λ (z : ℕ). z - first) generation in record {
  drawn = let a = sum_set was_drawn records k r r' there in let g = h.drawn in let d = ap drawn_as place in omega arith;
  reused = let a = sum_set (lives_before first) records k r r' there in let g = h.reused in omega arith;
  retired = let a = sum_set (times_retired first) records k r r' there in let g = h.retired in let d = ap retired_as place in omega arith;
  freed = let a = sum_set (times_freed first) records k r r' there in let g = h.freed in let d = ap freed_as place in omega arith;
}

-- a record that counts as it did
pub balances_same : (first : ℕ) (m m' : Moves) (r r' : Record) → m'.drawn ≡ m.drawn → m'.reused ≡ m.reused → m'.retired ≡ m.retired → m'.freed ≡ m.freed → r'.generation ≡ r.generation
    → drawn_as r'.place ≡ drawn_as r.place → retired_as r'.place ≡ retired_as r.place → freed_as r'.place ≡ freed_as r.place → Balances first m m' r r'
balances_same first m m' r r' drawn reused retired freed generation d t f = let e = ap (λ (z : ℕ). z - first) generation in record { drawn = omega arith; reused = omega arith; retired = omega arith; freed = omega arith }

-- a store in a record's row
module _ where
  pub stored_drawn : (s : Standing) (m : Moves) → ((moves_stored s m).drawn ≡ m.drawn) × ((moves_stored s m).reused ≡ m.reused) × ((moves_stored s m).retired ≡ m.retired) × ((moves_stored s m).freed ≡ m.freed)
  stored_drawn (Handing n) m = by (eqb n 7)
    where
      by : (b : Bool) → ((cond b (gave_birth m) m).drawn ≡ m.drawn) × ((cond b (gave_birth m) m).reused ≡ m.reused) × ((cond b (gave_birth m) m).retired ≡ m.retired) × ((cond b (gave_birth m) m).freed ≡ m.freed)
      by true = (refl, refl, refl, refl)
      by false = (refl, refl, refl, refl)
  stored_drawn s m = (refl, refl, refl, refl)

  pub stored_had : (s : Standing) → (retired_had (standing_after s) ≡ retired_had s) × (freed_had (standing_after s) ≡ freed_had s)
  stored_had (Handing n) = by (eqb n 7)
    where
      by : (b : Bool) → (retired_had (cond b Own (Handing (n + 1))) ≡ 0) × (freed_had (cond b Own (Handing (n + 1))) ≡ 0)
      by true = (refl, refl)
      by false = (refl, refl)
  stored_had s = (refl, refl)

  pub balances_stored : (first c : ℕ) (s : Standing) (m : Moves) (r r' : Record) → r.place ≡ Of c s → r'.place ≡ Of c (standing_after s) → r'.generation ≡ r.generation → Balances first m (moves_stored s m) r r'
  balances_stored first c s m r r' is now generation = let d = stored_drawn s m in let h = stored_had s in
      balances_same first m (moves_stored s m) r r' d.0 d.1 d.2 d.3 generation (ap drawn_as now ∙ sym (ap drawn_as is)) (ap retired_as now ∙ h.0 ∙ sym (ap retired_as is)) (ap freed_as now ∙ h.1 ∙ sym (ap freed_as is))

-- a record is drawn
pub balances_drawn : (first : ℕ) (m : Moves) (r r' : Record) {c : ℕ} → r.place ≡ Undrawn → r'.place ≡ Of c (Handing 0) → r'.generation ≡ first → r.generation + 1 ≡ first → Balances first m (drew_one m) r r'
balances_drawn first m r r' is now generation old = let a : was_drawn r ≡ 0 = ap drawn_as is in let b : was_drawn r' ≡ 1 = ap drawn_as now in let d : retired_as r.place ≡ 0 = ap retired_as is in let e : retired_as r'.place ≡ 0 = ap retired_as now in
    let f : freed_as r.place ≡ 0 = ap freed_as is in let g : freed_as r'.place ≡ 0 = ap freed_as now in record { drawn = omega arith; reused = omega arith; retired = omega arith; freed = omega arith }
