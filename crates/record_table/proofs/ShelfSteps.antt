-- The words of the shelves, and what steps on them tell.
use Rattle.std.proofs.Common.{◌≡◌, ℕ, ◌+◌, ◌-◌, ◌<◌, List, [], ◌∷◌, length, All, Bool, true, false, cond, eqb, Option, Some, None, sym, refl, ap, ◌∙◌, subst, arith, ⊎_elim, MatchOption}
use Rattle.std.proofs.lemmas.Bool.{eqb-true, eqb-false, ne_eqb, lt-ltb}
use Rattle.record_memory.specs.declared.steps.Word.{Word}
use Rattle.record_memory.specs.declared.steps.Word.TheVariants.{Shelf}
use Rattle.record_memory.specs.declared.steps.StepKind.TheVariants.{Swap, Exchange}
use Rattle.record_memory.specs.declared.books.View.{View}
use Rattle.record_memory.specs.Memory.{word_at}
use Rattle.row_words.specs.Refs.{RefParts, IsRef}
use Rattle.row_words.specs.Packing.{packed_ref, ref_in, IsPackedRef}
use Rattle.row_words.proofs.Packed.{ref_in-packed_ref, packed_ref_same}
use Rattle.atomic_table.specs.Table.{State}
use Rattle.record_rule.specs.Kinds.{made_step, Lawful}
use Rattle.record_rule.specs.Shelving.{shelf_step, LeadsIn, IsSparable, HasFreeChain, TookChain, ToldTake, GaveChain, ToldGive}
use Rattle.record_table.specs.Recording.{Adds}
use Rattle.record_table.specs.ToldShelves.{ToldPut}

-- the word of a shelf
pub shelf_word : (callers k : ℕ) → k < 16 → word_at callers (4 + k) ≡ Shelf k
shelf_word callers k h = rw (ne_eqb (4 + k) 0 (λ e. omega arith), ne_eqb (4 + k) 1 (λ e. omega arith), ne_eqb (4 + k) 2 (λ e. omega arith), ne_eqb (4 + k) 3 (λ e. omega arith), lt-ltb (4 + k) 20 (omega arith))
    (ap (λ (z : ℕ). Shelf z) (let e : 4 + k - 4 ≡ k = omega arith in e))

-- a swap is recorded as what it is
pub adds_take : (v : View) (k : ℕ) (place : Word) → place ≡ Shelf k → (n : ℕ) (w : View) → ToldTake v k n w → Adds Swap place n 0 v w
adds_take v k place name n w told = ⊎_elim
    (λ x. subst (Adds Swap place n 0 v) (sym x.1) record { same = record { caller = refl; setup = refl; present = refl; others = refl }; step = shelf_step v Swap k 0 0; one = refl; kind_is = refl; word_is = sym name; found_is = sym x.0; left_is = refl; idle_is = refl })
    (λ x. subst (Adds Swap place n 0 v) (sym x.3.view) record { same = record { caller = refl; setup = refl; present = refl; others = refl }; step = shelf_step v Swap k (packed_ref (Some x.0)) 0; one = refl; kind_is = refl; word_is = sym name; found_is = sym x.2; left_is = refl; idle_is = refl }) told

-- and so is an exchange
pub adds_give : (v : View) (k : ℕ) (place : Word) → place ≡ Shelf k → (value n : ℕ) (w : View) → ToldPut v k value n w → Adds Exchange place n (cond (eqb n 0) value n) v w
adds_give v k place name value n w t = by (eqb n 0) refl
  where
    by : (b : Bool) → eqb n 0 ≡ b → Adds Exchange place n (cond b value n) v w
    by true e = let is = eqb-true n 0 e in let g = t.told.gave is in
        subst (Adds Exchange place n value v) (sym g.view) record { same = record { caller = refl; setup = refl; present = refl; others = refl }; step = shelf_step v Exchange k 0 (packed_ref (Some t.head)); one = refl; kind_is = refl; word_is = sym name; found_is = sym is; left_is = sym t.packed; idle_is = refl }
    by false e = subst (Adds Exchange place n n v) (sym (t.told.refused (eqb-false n 0 e))) record { same = record { caller = refl; setup = refl; present = refl; others = refl }; step = shelf_step v Exchange k n n; one = refl; kind_is = refl; word_is = sym name; found_is = refl; left_is = refl; idle_is = refl }

-- what a swap found was packed
pub take_packed : (v : View) (k n : ℕ) (w : View) → ToldTake v k n w → IsPackedRef n
unfolding packed_ref
take_packed v k n w told = ⊎_elim (λ x. record { target = None; in_range = tt; packed = x.0 }) (λ x. record { target = Some x.0; in_range = x.1; packed = x.2 }) told

-- and this is what the reference that it was packed from says
pub take_says : (v : View) (k n : ℕ) (w : View) → ToldTake v k n w → (r : Option RefParts) → r ≡ ref_in n → MatchOption r (w ≡ made_step v (shelf_step v Swap k 0 0)) (λ head. TookChain v k head w)
unfolding packed_ref
take_says v k n w told r is = let P : Option RefParts → Type 0 = λ z. MatchOption z (w ≡ made_step v (shelf_step v Swap k 0 0)) (λ head. TookChain v k head w) in ⊎_elim
    (λ x. subst P (sym (ref_in-packed_ref None tt) ∙ ap ref_in (sym x.0) ∙ sym is) x.1)
    (λ x. subst P (sym (ref_in-packed_ref (Some x.0) x.1) ∙ ap ref_in (sym x.2) ∙ sym is) x.3) told

-- the first record of a chain has an index and a generation in range
pub head_is_ref : (v : View) (head : RefParts) (refs : List RefParts) → HasFreeChain v head refs → IsRef head
head_is_ref v head refs has = first refs has.leads has.many has.free
  where
    first : (rs : List RefParts) → LeadsIn v (Some head) rs → length rs ≡ 32 → All (IsSparable v) rs → IsRef head
    first [] l many all = absurd (omega arith)
    first (r ∷ rs) l many all = let e : head ≡ r = cc in subst IsRef (sym e) (all 0 r (omega arith)).owns.is_ref

-- a chain that was put is the one that was meant
pub put_says : (v : View) (k value n : ℕ) (w : View) (head : RefParts) → IsRef head → value ≡ packed_ref (Some head) → ToldPut v k value n w → n ≡ 0 → (refs : List RefParts) × HasFreeChain v head refs × GaveChain v k head refs w
put_says v k value n w head is_ref packed t is = let same : t.head ≡ head = (let e = packed_ref_same (Some t.head) (Some head) t.is_ref is_ref (sym t.packed ∙ packed) in cc) in
    subst (λ (z : RefParts). (refs : List RefParts) × HasFreeChain v z refs × GaveChain v k z refs w) same (t.refs, t.chain, t.told.gave is)

-- which shelf a word is
pub shelf_back : (word k : ℕ) → word ≡ 4 + k → word - 4 ≡ k
shelf_back word k place = omega arith

module _ (holds : State (Unit {0}) View → Type 0) (id : ℕ) (v : View) (word k : ℕ) (place : word ≡ 4 + k) where
  -- the word is the shelf's
  shelf_is : k ≡ 4 + k - 4
  shelf_is = omega arith

  pub lawful_take : Lawful holds id v (4 + k) (λ n. 0) (ToldTake v k) → Lawful holds id v word (λ n. 0) (ToldTake v (word - 4))
  lawful_take may = subst (λ (z : ℕ). Lawful holds id v z (λ n. 0) (ToldTake v (z - 4))) (sym place) (subst (λ (z : ℕ). Lawful holds id v (4 + k) (λ n. 0) (ToldTake v z)) shelf_is may)

  pub lawful_put : (head : RefParts) (refs : List RefParts) (value : ℕ) → value ≡ packed_ref (Some head) → HasFreeChain v head refs → Lawful holds id v (4 + k) (λ n. cond (eqb n 0) (packed_ref (Some head)) n) (ToldGive v k head refs)
      → Lawful holds id v word (λ n. cond (eqb n 0) value n) (ToldPut v (word - 4) value)
  lawful_put head refs value packed has may = subst (λ (z : ℕ × ℕ). Lawful holds id v z.0 (λ n. cond (eqb n 0) z.1 n) (ToldPut v (z.0 - 4) z.1)) (λ j. (sym place j, sym packed j))
      (subst (λ (z : ℕ). Lawful holds id v (4 + k) (λ n. cond (eqb n 0) (packed_ref (Some head)) n) (ToldPut v z (packed_ref (Some head)))) shelf_is
      (λ s u at. let x = may s u at in (x.0, x.1, record { head = head; is_ref = head_is_ref v head refs has; packed = refl; refs = refs; chain = has; told = x.2 })))
