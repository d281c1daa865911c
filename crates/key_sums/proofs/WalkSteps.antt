-- A walk over the paths of all roots counts the keys that are present, and comes to an end.
use Rattle.std.proofs.Common.{◌≡◌, ℕ, zero, suc, ◌+◌, ◌-◌, ◌*◌, ◌^◌, ◌<◌, ◌≤◌, ◌⊎◌, inl, inr, ⊎_elim, Bool, true, false, cond, eqb, IsTrue, sym, refl, ap, ◌∙◌, subst, arith}
use Rattle.std.proofs.Common.{List, [], ◌∷◌, length, length-set, get_or, set, drop, replicate, count_by, Option, Some, None}
use Rattle.std.proofs.lemmas.List.{length-replicate}
use Rattle.std.proofs.lemmas.List.Sums.{sum_by-cons}
use Rattle.std.proofs.lemmas.Bool.{cases_Bool, eqb-true, eq-eqb, or_cases, or_left, or_right}
use native.Mathlib.Decide.{dec_le}
use mathlib.Core.Logic.{dite}
use mathlib.Core.Option.{some, some-ne-none}
use Rattle.atomic_table.proofs.Lists.{at_set}
use Rattle.row_words.specs.Refs.{RefParts, LinkParts}
use Rattle.row_words.specs.Packing.{key_in}
use Rattle.set_model.specs.Keys.{Keys, empty, contains, insert, size_of, sum_of}
use Rattle.set_model.proofs.KeySets.{same_keys, contains-empty, contains-insert, size_of-empty, size_of-insert, sum_of-empty, sum_of-insert}
use Rattle.record_memory.specs.declared.books.Setup.{Setup}
use Rattle.record_rule.specs.Facts.{At, HasMark}
use Rattle.record_rule.proofs.Lists.{at_below, get_at, one_at, at_replicate, counts_more}
use Rattle.list_facts.specs.Paths.{row_link, row_key, NamesRow, IsPath, StandsOn, IsSetOf, ArePaths}
use Rattle.list_facts.proofs.Ways.{IsOption, none_is, some_is, is_option, one_target}
use Rattle.key_sums.specs.Walking.{IsAt, IsPassed, Counted, left_behind}

-- no more entries pass than there are
count_few : (l : List Bool) → count_by (λ b. b) l ≤ length l
count_few [] = omega arith
count_few (true ∷ l) = let h = count_few l in let e = sum_by-cons (λ (b : Bool). cond b 1 0) true l in omega arith
count_few (false ∷ l) = let h = count_few l in let e = sum_by-cons (λ (b : Bool). cond b 1 0) false l in omega arith

-- the first of what is left of a list
left_first : {A : Type 0} (l : List A) (p : ℕ) (a : A) (rest : List A) → drop p l ≡ a ∷ rest → At l p a × (drop (suc p) l ≡ rest)
left_first [] zero a rest e = let none : ⊥ = cc in absurd none
left_first [] (suc p) a rest e = let none : ⊥ = cc in absurd none
left_first (x ∷ xs) zero a rest e = (let same : x ≡ a = cc in ap some same, let same : xs ≡ rest = cc in same)
left_first (x ∷ xs) (suc p) a rest e = left_first xs p a rest e

-- where nothing is left, each entry came before
none_left : {A : Type 0} (l : List A) (p q : ℕ) (a : A) → drop p l ≡ [] → At l q a → q < p
none_left [] p q a e at = absurd (some-ne-none a (sym at))
none_left (x ∷ xs) zero q a e at = let none : ⊥ = cc in absurd none
none_left (x ∷ xs) (suc p) zero a e at = omega arith
none_left (x ∷ xs) (suc p) (suc q) a e at = let h = none_left xs p q a e at in omega arith

-- the next record of a path
next_on : (rows : List (List ℕ)) (o : Option RefParts) (rest : List RefParts) (t : RefParts) → IsPath rows o rest → o ≡ Some t
    → (more : List RefParts) × (rest ≡ t ∷ more) × NamesRow rows t × IsPath rows (row_link rows (t.index - 1)).target more
next_on rows o [] t is e = let none : ⊥ = (let z = is in cc) in absurd none
next_on rows o (r ∷ rs) t (first, named, more) e = let same : r ≡ t = one_target o r t first e in
    (rs, ap (λ (x : RefParts). x ∷ rs) same, subst (NamesRow rows) same named, subst (λ (x : RefParts). IsPath rows (row_link rows (x.index - 1)).target rs) same more)

-- and its end
end_on : (rows : List (List ℕ)) (o : Option RefParts) (rest : List RefParts) → IsPath rows o rest → o ≡ None → rest ≡ []
end_on rows o [] is e = refl
end_on rows o (r ∷ rs) (first, named, more) e = let none : ⊥ = cc in absurd none

small_row_key : (rows : List (List ℕ)) (i : ℕ) → row_key rows i < 2 ^ 40
unfolding key_in
small_row_key rows i = omega arith

module _ {setup : Setup} {rows : List (List ℕ)} {linked : ℕ → Type 0} (paths : ArePaths setup rows linked) where
  -- at a root nothing of its path was passed
  pub starts : (root : ℕ) → root < setup.roots → IsAt setup rows root 0 (row_link rows root)
  starts root low = let path = paths.each root low in record { low = low; path = path.0; is_path = path.1; rest = path.1 }

  module _ {root place : ℕ} {link : LinkParts} (at : IsAt setup rows root place link) (t : RefParts) (e : link.target ≡ Some t) where
    next : (more : List RefParts) × (drop place at.path ≡ t ∷ more) × NamesRow rows t × IsPath rows (row_link rows (t.index - 1)).target more
    next = next_on rows link.target (drop place at.path) t at.rest e

    pub names : NamesRow rows t
    names = next.2

    first : At at.path place t × (drop (suc place) at.path ≡ next.0)
    first = left_first at.path place t next.0 next.1

    pub stands : StandsOn rows root place (t.index - 1)
    stands = record { path = at.path; is_path = at.is_path; ref = t; at = first.0; named = (let some_index = names.index in omega arith) }

    -- the walk goes on from the next record
    pub goes : IsAt setup rows root (place + 1) (row_link rows (t.index - 1))
    goes = record {
      low = at.low;
      path = at.path;
      is_path = at.is_path;
      rest = subst (λ (n : ℕ). IsPath rows (row_link rows (t.index - 1)).target (drop n at.path)) (let z : suc place ≡ place + 1 = omega arith in z)
          (subst (IsPath rows (row_link rows (t.index - 1)).target) (sym first.1) next.3);
    }

    -- what was passed behind it is that record, or was passed before
    passed_next : (i : ℕ) → IsPassed setup rows root (place + 1) i → (i ≡ t.index - 1) ⊎ IsPassed setup rows root place i
    passed_next i (n, p, low, st, inl lt) = inr (n, p, low, st, inl lt)
    passed_next i (n, p, low, st, inr (same, le)) = dite (dec_le (suc p) place) (λ h. inr (n, p, low, st, inr (same, omega (arith, h)))) (λ h. inl (
        let path : st.path ≡ at.path = paths.only root st.path at.path at.low (subst (λ (z : ℕ). IsPath rows (row_link rows z).target st.path) same st.is_path) at.is_path in
        let last : p ≡ place = omega (arith, h, le) in
        let there : At at.path place st.ref = subst (λ (z : ℕ). At at.path z st.ref) last (subst (λ (l : List RefParts). At l p st.ref) path st.at) in
        let ref : st.ref.index ≡ t.index = ap (λ (r : RefParts). r.index) (one_at at.path place st.ref t there first.0) in
        omega (arith, st.named, ref)))

    passed_more : (i : ℕ) → (i ≡ t.index - 1) ⊎ IsPassed setup rows root place i → IsPassed setup rows root (place + 1) i
    passed_more i (inl is) = (root, place, at.low, subst (StandsOn rows root place) (sym is) stands, inr (refl, omega arith))
    passed_more i (inr (n, p, low, st, inl lt)) = (n, p, low, st, inl lt)
    passed_more i (inr (n, p, low, st, inr (same, lt))) = (n, p, low, st, inr (same, omega (arith, lt)))

    -- it wasn't passed before
    not_passed : ¬ IsPassed setup rows root place (t.index - 1)
    not_passed (n, p, low, st, inl lt) = let x = paths.apart n root p place (t.index - 1) low at.low st stands in omega (arith, lt, x.0)
    not_passed (n, p, low, st, inr (same, lt)) = let x = paths.apart n root p place (t.index - 1) low at.low st stands in omega (arith, lt, x.1)

    -- fewer are left behind the next record
    less_by : IsOption (row_link rows (t.index - 1)).target → left_behind rows (row_link rows (t.index - 1)).target < left_behind rows (Some t)
    unfolding goes
    less_by (none_is z) = subst (λ o. left_behind rows o < left_behind rows (Some t)) (sym z) (omega (arith, small_row_key rows (t.index - 1)))
    less_by (some_is u z) =
        let after = next_on rows (row_link rows (t.index - 1)).target (drop (place + 1) at.path) u goes.rest z in
        let second = left_first at.path (place + 1) u after.0 after.1 in
        let up : StandsOn rows root (place + 1) (u.index - 1) = record { path = at.path; is_path = at.is_path; ref = u; at = second.0; named = (let some_index = after.2.index in omega arith) } in
        let rise = paths.rising root place (place + 1) (t.index - 1) (u.index - 1) at.low stands up (omega arith) in
        subst (λ o. left_behind rows o < left_behind rows (Some t)) (sym z) (omega (arith, rise, small_row_key rows (t.index - 1)))

    pub less : left_behind rows (row_link rows (t.index - 1)).target < left_behind rows link.target
    less = subst (λ o. left_behind rows (row_link rows (t.index - 1)).target < left_behind rows o) (sym e) (less_by (is_option (row_link rows (t.index - 1)).target))

    module _ {size sum : ℕ} (c : Counted setup rows root place size sum) where
      within : t.index - 1 < length c.seen
      within = omega (arith, names.within, c.long)

      unseen_here : get_or c.seen (t.index - 1) false ≡ false
      unseen_here = let x = at_below c.seen (t.index - 1) within in ⊎_elim
          (λ y. absurd (not_passed (c.visited (t.index - 1) (x.1 ∙ ap some y))))
          (λ y. get_at c.seen (t.index - 1) x.0 false x.1 ∙ y)
          (cases_Bool x.0)

      abbrev seen_here : List Bool
      seen_here = set c.seen (t.index - 1) true

      one_seen : count_by (λ b. b) seen_here ≡ count_by (λ b. b) c.seen + 1
      one_seen = counts_more (λ b. b) c.seen (t.index - 1) true false within unseen_here refl

      visited_here : (i : ℕ) → At seen_here i true → IsPassed setup rows root (place + 1) i
      visited_here i there = ⊎_elim (λ x. passed_more i (inl x.0)) (λ x. passed_more i (inr (c.visited i x.1))) (at_set c.seen (t.index - 1) i true true there)

      -- its key isn't one that was counted, since keys are there once
      absent : contains c.keys (row_key rows (t.index - 1)) ≡ false
      absent = ⊎_elim
          (λ y. let (i, (n, p, low, st, passed), clear, same) = (c.each (row_key rows (t.index - 1))).0 y in
          let one : i ≡ t.index - 1 = paths.once i (t.index - 1) (paths.is_linked i (n, p, low, st)) (paths.is_linked (t.index - 1) (root, place, at.low, stands)) same in
          absurd (not_passed (subst (IsPassed setup rows root place) one (n, p, low, st, passed))))
          (λ y. y)
          (cases_Bool (contains c.keys (row_key rows (t.index - 1))))

      -- a marked record isn't counted
      pub skips : HasMark (row_link rows (t.index - 1)) → Counted setup rows root (place + 1) size sum
      skips mark = record {
        keys = c.keys;
        size_is = c.size_is;
        sum_is = c.sum_is;
        each = λ k. (
          (λ has. let (i, passed, clear, same) = (c.each k).0 has in (i, passed_more i (inr passed), clear, same)),
          (λ (i, passed, clear, same). ⊎_elim (λ is. absurd (clear (subst (λ (x : ℕ). HasMark (row_link rows x)) (sym is) mark))) (λ before. (c.each k).1 (i, before, clear, same)) (passed_next i passed)),
        );
        seen = seen_here;
        long = length-set c.seen (t.index - 1) true ∙ c.long;
        few = omega (arith, one_seen, c.few);
        small = omega (arith, one_seen, c.small);
        visited = visited_here;
      }

      -- and one without a mark is, with its key
      pub counts : ¬ HasMark (row_link rows (t.index - 1)) → Counted setup rows root (place + 1) (size + 1) (sum + row_key rows (t.index - 1))
      counts unmarked = record {
        keys = insert c.keys (row_key rows (t.index - 1));
        size_is = ap (λ (z : ℕ). z + 1) c.size_is ∙ sym (size_of-insert c.keys (row_key rows (t.index - 1)) ∙ ap (λ b. cond b (size_of c.keys) (size_of c.keys + 1)) absent);
        sum_is = ap (λ (z : ℕ). z + row_key rows (t.index - 1)) c.sum_is
            ∙ sym (sum_of-insert c.keys (row_key rows (t.index - 1)) ∙ ap (λ b. cond b (sum_of c.keys) (sum_of c.keys + row_key rows (t.index - 1))) absent);
        each = λ k. (
          (λ has. ⊎_elim
              (λ y. (t.index - 1, passed_more (t.index - 1) (inl refl), unmarked, sym (eqb-true k (row_key rows (t.index - 1)) y)))
              (λ y. let (i, passed, clear, same) = (c.each k).0 y in (i, passed_more i (inr passed), clear, same))
              (or_cases (eqb k (row_key rows (t.index - 1))) (contains c.keys k) (sym (contains-insert c.keys (row_key rows (t.index - 1)) k) ∙ has))),
          (λ (i, passed, clear, same). contains-insert c.keys (row_key rows (t.index - 1)) k ∙ ⊎_elim
              (λ is. or_left (eqb k (row_key rows (t.index - 1))) (contains c.keys k) (eq-eqb k (row_key rows (t.index - 1)) (sym same ∙ ap (row_key rows) is)))
              (λ before. or_right (eqb k (row_key rows (t.index - 1))) (contains c.keys k) ((c.each k).1 (i, before, clear, same)))
              (passed_next i passed)),
        );
        seen = seen_here;
        long = length-set c.seen (t.index - 1) true ∙ c.long;
        few = omega (arith, one_seen, c.few);
        small = omega (arith, one_seen, c.small, small_row_key rows (t.index - 1));
        visited = visited_here;
      }

  module _ {root place size sum : ℕ} {link : LinkParts} (at : IsAt setup rows root place link) (e : link.target ≡ None) (c : Counted setup rows root place size sum) where
    -- at the end of a path all of it was passed
    passed_all : (i : ℕ) → IsPassed setup rows (root + 1) 0 i → IsPassed setup rows root place i
    passed_all i (n, p, low, st, inr (same, lt)) = absurd (omega (arith, lt))
    passed_all i (n, p, low, st, inl lt) = dite (dec_le (suc n) root) (λ h. (n, p, low, st, inl (omega (arith, h)))) (λ h.
        let same : n ≡ root = omega (arith, h, lt) in
        let path : st.path ≡ at.path = paths.only root st.path at.path at.low (subst (λ (z : ℕ). IsPath rows (row_link rows z).target st.path) same st.is_path) at.is_path in
        (n, p, low, st, inr (same, none_left at.path place p st.ref (end_on rows link.target (drop place at.path) at.rest e) (subst (λ (l : List RefParts). At l p st.ref) path st.at))))

    passed_on : (i : ℕ) → IsPassed setup rows root place i → IsPassed setup rows (root + 1) 0 i
    passed_on i (n, p, low, st, inl lt) = (n, p, low, st, inl (omega (arith, lt)))
    passed_on i (n, p, low, st, inr (same, lt)) = (n, p, low, st, inl (omega (arith, same)))

    pub ends : Counted setup rows (root + 1) 0 size sum
    ends = record {
      keys = c.keys;
      size_is = c.size_is;
      sum_is = c.sum_is;
      each = λ k. (
        (λ has. let (i, passed, clear, same) = (c.each k).0 has in (i, passed_on i passed, clear, same)),
        (λ (i, passed, clear, same). (c.each k).1 (i, passed_all i passed, clear, same)),
      );
      seen = c.seen;
      long = c.long;
      few = c.few;
      small = c.small;
      visited = λ i there. passed_on i (c.visited i there);
    }

  -- the numbers stay small
  pub bounded : {root place size sum : ℕ} → Counted setup rows root place size sum → (size ≤ length rows) × (sum ≤ length rows * 2 ^ 40)
  bounded c = let most = count_few c.seen in (omega (arith, most, c.few, c.long), omega (arith, most, c.small, c.long))

  -- behind the last root all is counted
  pub done : {size sum : ℕ} → Counted setup rows setup.roots 0 size sum → (keys : Keys) × IsSetOf setup rows keys × (size ≡ size_of keys) × (sum ≡ sum_of keys)
  done c = (
    c.keys,
    (λ k. (
      (λ has. let (i, (n, p, low, st, passed), clear, same) = (c.each k).0 has in (i, (n, p, low, st), clear, same)),
      (λ (i, (n, p, low, st), clear, same). (c.each k).1 (i, (n, p, low, st, inl low), clear, same)),
    )),
    c.size_is,
    c.sum_is,
  )

-- before the first root nothing is
pub begins : (setup : Setup) (rows : List (List ℕ)) → Counted setup rows 0 0 0 0
begins setup rows = record {
  keys = empty;
  size_is = sym size_of-empty;
  sum_is = sym sum_of-empty;
  each = λ k. ((λ has. let none : ⊥ = (let z = sym (contains-empty k) ∙ has in cc) in absurd none), (λ (i, (n, p, low, st, passed), clear, same). absurd (⊎_elim (λ lt. omega (arith, lt)) (λ x. omega (arith, x.1)) passed)));
  seen = replicate (length rows) false;
  long = length-replicate (length rows) false;
  few = omega arith;
  small = omega arith;
  visited = λ i there. let none : ⊥ = (let z = (at_replicate (length rows) i false true there).1 in cc) in absurd none;
}

-- a table has one set
pub one_set : (setup : Setup) (rows : List (List ℕ)) (s t : Keys) → IsSetOf setup rows s → IsSetOf setup rows t → s ≡ t
one_set setup rows s t is are = same_keys s t (λ k. both (contains s k) (contains t k) (λ has. (are k).1 ((is k).0 has)) (λ has. (is k).1 ((are k).0 has)))
  where
    both : (b c : Bool) → (IsTrue b → IsTrue c) → (IsTrue c → IsTrue b) → b ≡ c
    both true true f g = refl
    both true false f g = let none : ⊥ = (let z = f refl in cc) in absurd none
    both false true f g = let none : ⊥ = (let z = g refl in cc) in absurd none
    both false false f g = refl
