-- How many records a caller's chains have.
use Rattle.std.proofs.Common.{◌≡◌, ◌≢◌, ℕ, zero, suc, ◌+◌, ◌-◌, ◌<◌, ◌≤◌, ◌^◌, nat_lt, List, [], ◌∷◌, All, length, get_or, set, get_or-set_other, Bool, true, false, cond, Option, Some, None, sym, refl, ap, ◌∙◌, arith}
use Rattle.std.specs.List.{AllPairs, count_by}
use Rattle.std.proofs.lemmas.Bool.{ltb-true, lt-ltb}
use Rattle.std.proofs.lemmas.List.Elements.{All-head, All-tail}
use Rattle.record_memory.specs.declared.books.Share.{Share}
use Rattle.record_memory.specs.declared.books.Standing.{Standing}
use Rattle.record_memory.specs.declared.books.Standing.TheVariants.{Handing, Own, Spare, TakenOut, Limbo, Free, Spent}
use Rattle.record_memory.specs.declared.books.View.{View}
use Rattle.row_words.specs.Refs.{RefParts, IsRef}
use Rattle.row_words.specs.declared.links.Chain.{Chain}
use Rattle.limbo_bags.proofs.Counts.{AllPairs-head, AllPairs-tail}
use Rattle.record_rule.specs.Kinds.{is_idle_as, is_idle, idle}
use Rattle.record_rule.specs.Standings.{is_free, is_spare}
use Rattle.record_rule.proofs.Lists.{counts_less}
use Rattle.record_rule.proofs.CountingPlaces.{bit, count_cons}
use Rattle.reclaim_api.specs.Chained.{IsChainOf, refs_in}
use Rattle.reclaim_api.specs.Frames.{is_as, had}
use Rattle.manager.specs.Counted.{shown}

module _ {A : Type 0} (p : Option A → Bool) (none : p None ≡ false) where
  -- what counts stands in the list
  within : (l : List (Option A)) (i : ℕ) → p (get_or l i None) ≡ true → i < length l
  within [] zero e = let no : false ≡ true = sym none ∙ e in let bad : ⊥ = cc in absurd bad
  within [] (suc i) e = let no : false ≡ true = sym none ∙ e in let bad : ⊥ = cc in absurd bad
  within (x ∷ xs) zero e = omega arith
  within (x ∷ xs) (suc i) e = let h = within xs i e in omega arith

  -- records that differ and count are no more than the count
  differ_count : (refs : List RefParts) (l : List (Option A)) → AllPairs (λ a b. a.index ≢ b.index) refs → All IsRef refs → All (λ (r : RefParts). p (get_or l (r.index - 1) None) ≡ true) refs → length refs ≤ count_by p l
  differ_count [] l pairs ref all = omega arith
  differ_count (r ∷ rs) l pairs ref all = let here = All-head (λ (q : RefParts). p (get_or l (q.index - 1) None) ≡ true) r rs all in
      let less = counts_less p l (r.index - 1) None None (within l (r.index - 1) here) here none in
      let h = differ_count rs (set l (r.index - 1) None) (AllPairs-tail (λ a b. a.index ≢ b.index) r rs pairs) (All-tail IsRef r rs ref) still in omega arith
    where
      still : All (λ (q : RefParts). p (get_or (set l (r.index - 1) None) (q.index - 1) None) ≡ true) rs
      still k d b = let apart = AllPairs-head (λ a c. a.index ≢ c.index) r rs pairs k d b in let mine = (All-head IsRef r rs ref).index.0 in let its = (All-tail IsRef r rs ref k d b).index.0 in
          ap p (get_or-set_other l (r.index - 1) _ None None (λ e. apart (omega arith))) ∙ All-tail (λ (q : RefParts). p (get_or l (q.index - 1) None) ≡ true) r rs all k d b

-- a chain has no more records than the caller has so
chain_had : (standing : Standing) (test : Standing → Bool) (v : View) (chain : Chain) → test standing ≡ true → IsChainOf standing v chain → chain.count ≤ had test v.own
chain_had standing test v chain is h = let n = differ_count (is_as test) refl (refs_in v chain) v.own.mine h.list.distinct h.list.in_range counted in let c = h.list.count in omega arith
  where
    counted : All (λ (r : RefParts). is_as test (get_or v.own.mine (r.index - 1) None) ≡ true) (refs_in v chain)
    counted k d b = let one = h.list.owned k d b in ap (is_as test) one.owns.known ∙ ap test one.standing_is ∙ is

-- an idle record is free or spare
idle_as : (s : Standing) → bit (is_idle_as s) ≡ bit (is_free s) + bit (is_spare s)
idle_as (Handing n) = refl
idle_as Own = refl
idle_as Spare = refl
idle_as TakenOut = refl
idle_as Limbo = refl
idle_as Free = refl
idle_as Spent = refl

idle_one : (o : Option Share) → bit (is_idle o) ≡ bit (is_as is_free o) + bit (is_as is_spare o)
idle_one None = refl
idle_one (Some h) = idle_as h.standing

idle_both : (l : List (Option Share)) → count_by is_idle l ≡ count_by (is_as is_free) l + count_by (is_as is_spare) l
idle_both [] = refl
idle_both (x ∷ xs) = let a = count_cons is_idle x xs in let b = count_cons (is_as is_free) x xs in let c = count_cons (is_as is_spare) x xs in let o = idle_one x in let h = idle_both xs in omega arith

idle_is : (v : View) → idle v.own ≡ had is_free v.own + had is_spare v.own
unfolding idle
idle_is v = idle_both v.own.mine

-- so a caller's two chains have just its free and its spare records
module _ (v : View) (fs ss : Chain) (frees : IsChainOf Free v fs) (spares : IsChainOf Spare v ss) (all : idle v.own ≡ fs.count + ss.count) where
  pub free_is : fs.count ≡ had is_free v.own
  free_is = let a = chain_had Free is_free v fs refl frees in let b = chain_had Spare is_spare v ss refl spares in let i = idle_is v in omega arith

  pub spare_is : ss.count ≡ had is_spare v.own
  spare_is = let a = chain_had Free is_free v fs refl frees in let b = chain_had Spare is_spare v ss refl spares in let i = idle_is v in omega arith

-- what a count shows that didn't stand still
pub shown_below : (n : ℕ) → n < 2 ^ 64 → shown n ≡ n
shown_below n below = ap (λ (b : Bool). cond b n (2 ^ 64 - 1)) (lt-ltb n (2 ^ 64) below)

-- a smaller one shows no more
pub shown_less : (m n : ℕ) → m ≤ n → shown m ≤ shown n
shown_less m n less = by (nat_lt m (2 ^ 64)) (nat_lt n (2 ^ 64)) refl refl
  where
    by : (a b : Bool) → nat_lt m (2 ^ 64) ≡ a → nat_lt n (2 ^ 64) ≡ b → cond a m (2 ^ 64 - 1) ≤ cond b n (2 ^ 64 - 1)
    by true true e f = less
    by true false e f = let lt = ltb-true m (2 ^ 64) e in omega arith
    by false true e f = let lt = ltb-true n (2 ^ 64) f in let no : true ≡ false = sym (lt-ltb m (2 ^ 64) (omega arith)) ∙ e in let bad : ⊥ = cc in absurd bad
    by false false e f = omega arith
