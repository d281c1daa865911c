-- A bag of all records in limbo that was sifted by a test, once those that the test doesn't keep had left limbo.
use Rattle.std.proofs.Common.{◌≡◌, ◌≢◌, ℕ, ◌+◌, List, [], ◌∷◌, ◌++◌, length, reverse, filter, get_or, count_by, map, All, Bool, true, false, eqb, ◌&&◌, not, sym, refl, ap, ◌∙◌, subst, arith}
use Rattle.std.proofs.lemmas.Bool.{eq-eqb}
use Rattle.std.proofs.lemmas.List.{length-reverse}
use Rattle.std.proofs.lemmas.List.Elements.{All-filter, filter_passes}
use Rattle.std.proofs.lemmas.List.Sums.{length-filter}
use Rattle.std.proofs.lemmas.List.Filters.{length-filter_both}
use Rattle.record_memory.specs.declared.books.View.{View}
use Rattle.record_memory.specs.declared.books.Standing.TheVariants.{Limbo, Free}
use Rattle.row_words.specs.Refs.{RefParts}
use Rattle.row_words.specs.declared.links.Chain.{Chain}
use Rattle.row_words.specs.declared.links.Freed.{Freed}
use Rattle.limbo_bags.specs.Chains.{IsChain}
use Rattle.limbo_bags.specs.Wholes.{AreApart, passes, is_freed, is_returned, is_spent}
use Rattle.record_rule.specs.ChainRows.{row_in, OwnsAway, IsStill, unchained}
use Rattle.record_rule.specs.Facts.{LimboRecord}
use Rattle.record_rule.specs.Freeing.{freed_from, count_freed}
use Rattle.record_rule.specs.Standings.{is_limbo}
use Rattle.record_rule.proofs.CountingPlaces.{bit, count_cons}
use Rattle.record_table.proofs.Closings.{All-reverse}
use Rattle.reclaim_api.specs.Bags.{limbo_read, bag_count, count_spent, LeftLimbo, FreedInFront}
use Rattle.reclaim_api.specs.Chained.{IsAs, IsChainOf, refs_in}
use Rattle.reclaim_api.specs.Frames.{had, FreesInto, LeavesRest}
use Rattle.reclaim_api.proofs.Bagged.{bag_all, bag_parts, chain_passing, chains_apart}
use Rattle.reclaim_api.proofs.Leaving.{left_row, left_chain, left_had}
use Rattle.reclaim_api.proofs.Stills.{still_had}
use Rattle.reclaim_api.proofs.StillChains.{chain_weaker}
use Rattle.reclaim_api.proofs.Freeings.{limbo_chain, freed_rest, free_after, frees_into, moved_from}

-- what fails a test, and what passes
pub count_parts : (p : RefParts → Bool) (rs : List RefParts) → count_by p rs + count_by (λ r. not (p r)) rs ≡ length rs
count_parts p rs = let a = length-filter p rs in let b = length-filter (λ r. not (p r)) rs in let c = length-filter_both p (λ r. not (p r)) (λ r. refl) rs in omega arith

-- in two parts
count_split : (p q : RefParts → Bool) (rs : List RefParts) → count_by (λ r. p r && not (q r)) rs + count_by (λ r. p r && q r) rs ≡ count_by p rs
count_split p q [] = refl
count_split p q (r ∷ rs) = let a = count_cons (λ x. p x && not (q x)) r rs in let b = count_cons (λ x. p x && q x) r rs in let c = count_cons p r rs in let d = count_split p q rs in let e = one (p r) (q r) in omega arith
  where
    one : (a b : Bool) → bit (a && not b) + bit (a && b) ≡ bit a
    one true true = refl
    one true false = refl
    one false b = refl

-- a bag with all records of limbo has all that pass a test
bag_passing : (t : LimboRecord → Bool) (v : View) (chain : Chain) → IsChainOf Limbo v chain → chain.count ≡ had is_limbo v.own → count_by (λ (r : RefParts). t (limbo_read v r)) (refs_in v chain) ≡ bag_count t v.own
bag_passing t v chain h whole = let a = chain_passing t v chain h in let b = chain_passing (λ x. not (t x)) v chain h in let c = count_parts (λ (r : RefParts). t (limbo_read v r)) (refs_in v chain) in let d = h.list.count in
    let e = bag_all v.own in let f = bag_parts (λ x. true) t v.own in let g = passing t in let k = passing (λ x. not (t x)) in omega arith
  where
    with_true : (b : Bool) → (b && true) ≡ b
    with_true true = refl
    with_true false = refl

    passing : (u : LimboRecord → Bool) → bag_count (λ x. u x && true) v.own ≡ bag_count u v.own
    passing u = λ k. bag_count (λ x. with_true (u x) k) v.own

off : (b : Bool) → b ≡ true → not b ≡ false
off true e = refl
off false e = let none : ⊥ = cc in absurd none

both : (a b : Bool) → (a && b) ≡ true → (a ≡ true) × (b ≡ true)
both true true e = (refl, refl)
both true false e = let none : ⊥ = cc in absurd none
both false b e = let none : ⊥ = cc in absurd none

-- the records that a test of a record, its birth and its stamp doesn't keep
abbrev pub unkept : (RefParts → ℕ → ℕ → Bool) → LimboRecord → Bool
unkept kept x = not (kept x.reference x.birth x.stamp)

-- what the bag and the free chain were through the rows, before and after
pub record HasSifted (kept : RefParts → ℕ → ℕ → Bool) (u w : View) (bag left free after : Chain) (f : Freed) (Q : Type 0) : Type 0 where
  pub still : IsStill u w
  pub stayed : refs_in w left ≡ reverse (filter (passes kept (row_in u)) (refs_in u bag))
  pub left_list : IsChain (λ (q : RefParts). Q × OwnsAway w q) (row_in w) left
  pub moved : refs_in w after ≡ reverse (filter (is_returned kept (row_in u)) (refs_in u bag)) ++ refs_in u free
  pub after_list : IsChain (λ (q : RefParts). Q × OwnsAway w q) (row_in w) after
  pub freed : f.freed ≡ count_by (is_freed kept (row_in u)) (refs_in u bag)
  pub spent : f.spent ≡ count_by (is_spent kept (row_in u)) (refs_in u bag)

module _ (kept : RefParts → ℕ → ℕ → Bool) (v u : View) (gone : LeftLimbo (unkept kept) v u) (bag free : Chain) (h : IsChainOf Limbo v bag) (whole : bag.count ≡ had is_limbo v.own) (frees : IsChainOf Free v free) where
  abbrev may : LimboRecord → Bool
  may = unkept kept

  -- what the rows ask of the chains
  pub bag_rows : (P : Type 0) → P → IsChain (λ (q : RefParts). P × OwnsAway u q) (row_in u) bag
  bag_rows P p = chain_weaker (OwnsAway u) (λ (q : RefParts). P × OwnsAway u q) (row_in u) bag (λ q a. (p, a)) (left_chain may v u gone Limbo bag tt h).list

  pub free_rows : (P : Type 0) → P → IsChain (λ (q : RefParts). P × OwnsAway u q) (row_in u) free
  free_rows P p = chain_weaker (OwnsAway u) (λ (q : RefParts). P × OwnsAway u q) (row_in u) free (λ q a. (p, a)) (left_chain may v u gone Free free tt frees).list

  bag_refs : refs_in u bag ≡ refs_in v bag
  bag_refs = (left_chain may v u gone Limbo bag tt h).refs

  free_refs : refs_in u free ≡ refs_in v free
  free_refs = (left_chain may v u gone Free free tt frees).refs

  pub rows_apart : AreApart (refs_in u bag) (refs_in u free)
  rows_apart = subst (λ (x : List RefParts × List RefParts). AreApart x.0 x.1) (λ k. (sym bag_refs k, sym free_refs k)) (chains_apart Limbo Free v bag free (λ e. cc) h frees)

  -- the test reads the same of each row
  abbrev stays : RefParts → Bool
  stays = passes kept (row_in v)

  abbrev goes : RefParts → Bool
  goes = is_freed kept (row_in v)

  same_test : passes kept (row_in u) ≡ stays
  same_test = λ k r. kept r (left_row may v u gone r k).birth (left_row may v u gone r k).stamp

  module _ (w : View) (left after : Chain) (f : Freed) (Q : Type 0) (s : HasSifted kept u w bag left free after f Q) where
    abbrev returns : RefParts → Bool
    returns r = goes r && not (eqb r.generation 1048575)

    abbrev back : List RefParts
    back = reverse (filter returns (refs_in v bag))

    stayed_is : refs_in w left ≡ reverse (filter stays (refs_in v bag))
    stayed_is = s.stayed ∙ (λ k. reverse (filter (same_test k) (bag_refs k)))

    moved_is : refs_in w after ≡ back ++ refs_in v free
    moved_is = s.moved ∙ (λ k. reverse (filter (λ r. not (same_test k r) && not (eqb r.generation 1048575)) (bag_refs k)) ++ free_refs k)

    freed_is : f.freed ≡ count_by goes (refs_in v bag)
    freed_is = s.freed ∙ (λ k. count_by (λ r. not (same_test k r)) (bag_refs k))

    spent_is : f.spent ≡ count_by (λ r. goes r && eqb r.generation 1048575) (refs_in v bag)
    spent_is = s.spent ∙ (λ k. count_by (λ r. not (same_test k r) && eqb r.generation 1048575) (bag_refs k))

    -- those that went can be handed out anew
    went : All (λ r. IsAs Limbo v r × (may (limbo_read v r) ≡ true) × (r.generation ≢ 1048575)) back
    went = All-reverse (λ r. IsAs Limbo v r × (may (limbo_read v r) ≡ true) × (r.generation ≢ 1048575)) (filter returns (refs_in v bag)) (λ k d low.
        let a = All-filter returns (IsAs Limbo v) (refs_in v bag) h.list.owned k d low in let r : RefParts = get_or (filter returns (refs_in v bag)) k d in
        let p = both (goes r) (not (eqb r.generation 1048575)) (filter_passes returns (refs_in v bag) k d low) in
        (a, p.0, (λ e. (let z : true ≡ false = sym p.1 ∙ off (eqb r.generation 1048575) (eq-eqb r.generation 1048575 e) in let none : ⊥ = cc in absurd none))))

    in_front : FreedInFront may v free f w after
    in_front = moved_from may v w bag free after f back h (bag_passing may v bag h whole) moved_is
        (chain_weaker (λ (q : RefParts). Q × OwnsAway w q) (OwnsAway w) (row_in w) after (λ q a. a.1) s.after_list) went
        (let a = length-reverse (filter returns (refs_in v bag)) in let b = length-filter returns (refs_in v bag) in let c = count_split goes (λ r. eqb r.generation 1048575) (refs_in v bag) in let d = spent_is in let e = freed_is in omega arith)
        freed_is spent_is

    pub sifted_free : IsChainOf Free w after
    sifted_free = free_after may v u w gone s.still free after f frees in_front

    pub sifted_frees : FreesInto v free f w after
    sifted_frees = frees_into may v u w gone s.still free after f frees in_front

    pub sifted_rest : LeavesRest v w
    sifted_rest = freed_rest may v u w gone s.still

    -- those that stayed
    each_stayed : All (λ r. IsAs Limbo v r × (may (limbo_read v r) ≡ false)) (refs_in w left)
    each_stayed = subst (All (λ r. IsAs Limbo v r × (may (limbo_read v r) ≡ false))) (sym stayed_is) (All-reverse (λ r. IsAs Limbo v r × (may (limbo_read v r) ≡ false)) (filter stays (refs_in v bag)) (λ k d low.
        (All-filter stays (IsAs Limbo v) (refs_in v bag) h.list.owned k d low, off _ (filter_passes stays (refs_in v bag) k d low))))

    pub sifted_bag : IsChainOf Limbo w left
    sifted_bag = limbo_chain may v u w gone s.still (λ (q : RefParts). Q × OwnsAway w q) left s.left_list each_stayed

    -- as many as the test keeps
    pub sifted_many : left.count ≡ count_by stays (refs_in v bag)
    sifted_many = let a = s.left_list.count in let b = ap (λ (l : List RefParts). length l) stayed_is in let c = length-reverse (filter stays (refs_in v bag)) in let d = length-filter stays (refs_in v bag) in omega arith

    -- and the caller has no other in limbo
    pub sifted_whole : left.count ≡ had is_limbo w.own
    sifted_whole = let a = sifted_many in let b = still_had u w s.still is_limbo in let c = left_had may v u gone in let d = bag_passing may v bag h whole in let e = count_parts stays (refs_in v bag) in let g = h.list.count in omega arith

    -- what is known of each record, and how many left
    pub sifted_mine : map unchained w.own.mine ≡ map unchained (freed_from may 0 v.own.mine)
    sifted_mine = ap (λ (x : View). x.own.mine) s.still.rest ∙ ap (map unchained) gone.mine

    pub sifted_freed : f.freed ≡ count_freed may 0 v.own.mine
    sifted_freed = in_front.freed

    pub sifted_spent : f.spent ≡ count_spent may 0 v.own.mine
    sifted_spent = in_front.spent
