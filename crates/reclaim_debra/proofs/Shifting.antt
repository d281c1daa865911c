-- Another epoch is read: the records of the third bag are free or spent, and the other bags are those of the two readings before.
use Rattle.std.proofs.Common.{◌≡◌, ◌≢◌, ℕ, ◌+◌, ◌<◌, ◌≤◌, List, [], ◌∷◌, ◌++◌, length, reverse, get_or, append_assoc, All, map, Bool, true, false, cond, eqb, None, sym, refl, ap, ◌∙◌, subst, arith, inl, ⊎_elim}
use Rattle.std.specs.Prelude.{◌&&◌, not, nat_lt}
use Rattle.std.specs.List.{count_by, filter}
use Rattle.std.proofs.lemmas.Bool.{eqb-true, eqb-false, ne_eqb, ltb-true, ltb-false, lt-ltb, le-ltb}
use Rattle.std.proofs.lemmas.List.{length-reverse, reverse-append}
use Rattle.std.proofs.lemmas.List.Elements.{All-nil, All-push, All-append, All-head, All-tail, All-filter, filter_passes}
use Rattle.std.proofs.lemmas.List.Sums.{length-filter}
use Rattle.std.proofs.lemmas.List.Filters.{length-filter_both}
use Rattle.record_memory.specs.declared.books.Setup.{Setup}
use Rattle.record_memory.specs.declared.books.View.{View}
use Rattle.record_memory.specs.declared.books.Guard.{Guard}
use Rattle.record_memory.specs.declared.books.Standing.TheVariants.{Limbo, Free}
use Rattle.row_words.specs.Refs.{RefParts}
use Rattle.row_words.specs.declared.links.Chain.{Chain}
use Rattle.row_words.specs.declared.links.Freed.{Freed}
use Rattle.limbo_bags.specs.Chains.{IsChain, IsKept}
use Rattle.limbo_bags.specs.Wholes.{AreApart, is_last, is_reusable}
use Rattle.record_rule.specs.Facts.{LimboRecord}
use Rattle.record_rule.specs.Freeing.{limbo_share, guard_loaded, LoadedControl}
use Rattle.record_rule.specs.ChainRows.{row_in, OwnsAway, IsStill, IsRowStep, unchained}
use Rattle.reclaim_api.specs.Chained.{IsAs, IsChainOf, refs_in}
use Rattle.reclaim_api.specs.Frames.{LeavesRest, FreesInto}
use Rattle.reclaim_api.specs.Bags.{limbo_read, bag_count, LeftLimbo, FreedInFront}
use Rattle.reclaim_api.specs.StepForms.{epoch_load}
use Rattle.reclaim_api.proofs.Leaving.{left_limbo, left_read, left_chain, bag_left}
use Rattle.reclaim_api.proofs.Stills.{still_setup, still_caller, still_guard, still_idle, still_bag, still_read}
use Rattle.reclaim_api.proofs.StillChains.{chain_away, chain_weaker, kept_chain}
use Rattle.reclaim_api.proofs.Bagged.{fewer, as_many, bag_parts, bag_after, bag_over, chains_apart, bags_apart, bag_spent}
use Rattle.reclaim_api.proofs.Freeings.{freed_rest, free_after, frees_into}
use Rattle.guard_facts.specs.Announcing.{reading}
use Rattle.debra_facts.specs.Rounds.{reads_anew}
use Rattle.debra_facts.specs.Debra.{debra}
use Rattle.reclaim_debra.specs.declared.bags.Bags.{Bags}
use Rattle.reclaim_debra.specs.LocalParts.{is_stamped, is_other, IsBag, KeepsBags}
use Rattle.reclaim_debra.specs.Running.{is_old, anew}
use Rattle.reclaim_debra.specs.Entering.{HasRead}
use Rattle.reclaim_debra.specs.Stamped.{bag_still, empty_bag}
use Rattle.reclaim_debra.proofs.Loads.{reads_first, reads_second, third_low}

-- what is so of each is so of each in the reverse order
all_reversed : (P : RefParts → Type 0) (rs : List RefParts) → All P rs → All P (reverse rs)
all_reversed P [] h = All-nil P
all_reversed P (r ∷ rs) h = subst (All P) (sym (reverse-append (r ∷ []) rs)) (All-append P (reverse rs) (r ∷ []) (all_reversed P rs (All-tail P r rs h)) (All-push P [] r (All-nil P) (All-head P r rs h)))

both : (a b : Bool) → (a && b) ≡ true → (a ≡ true) × (b ≡ true)
both true b h = (refl, h)
both false b h = let none : ⊥ = cc in absurd none

not_true : (b : Bool) → not b ≡ true → b ≡ false
not_true false e = refl
not_true true e = let none : ⊥ = cc in absurd none

-- tests of stamps
is_none_of : (n a b c : ℕ) → n ≢ a → n ≢ b → n ≢ c → (not (eqb n a) && (not (eqb n b) && not (eqb n c))) ≡ true
is_none_of n a b c x y z = λ k. not (ne_eqb n a x k) && (not (ne_eqb n b y k) && not (ne_eqb n c z k))

-- the records of a bag were moved in front of the free ones through the rows, of which these facts were asked and told
pub record HasMoved (u w : View) (P Q : Type 0) (bag free after : Chain) (f : Freed) : Type 0 where
  pub was : P
  pub still : IsStill u w
  pub refs : refs_in w after ≡ reverse (filter is_reusable (refs_in u bag)) ++ refs_in u free
  pub list : IsChain (λ (r : RefParts). Q × OwnsAway w r) (row_in w) after
  pub freed : f.freed ≡ length (refs_in u bag)
  pub spent : f.spent ≡ count_by is_last (refs_in u bag)
  pub kept : (other : Chain) → IsChain (λ (r : RefParts). P × OwnsAway u r) (row_in u) other → AreApart (refs_in u other) (refs_in u bag) → IsKept (λ (r : RefParts). Q × OwnsAway w r) (row_in u) (row_in w) other

module _ (l : Bags) (v : View) (b : KeepsBags l v) where
  abbrev old : LimboRecord → Bool
  old = is_old v.own.guard

  -- a stamp from the second reading on isn't old
  not_old : (n : ℕ) → b.second ≤ n → nat_lt n (reading v.own.guard 1) ≡ false
  not_old n le = le-ltb n (reading v.own.guard 1) (let e = reads_second l v b in omega arith)

  stamp_is : (n : ℕ) (x : LimboRecord) → is_stamped n x ≡ true → x.stamp ≡ n
  stamp_is n x e = eqb-true x.stamp n e

  -- no record of a later bag is old
  pub later_bag : (n : ℕ) (bag : Chain) → b.second ≤ n → IsBag v n bag → All (λ (r : RefParts). old (limbo_read v r) ≡ false) (refs_in v bag)
  later_bag n bag le h = λ k d lt. not_old (limbo_read v (get_or (refs_in v bag) k d)).stamp (let e = stamp_is n (limbo_read v (get_or (refs_in v bag) k d)) (h.stamped k d lt) in omega arith)

  -- each of the third is
  pub third_old : All (λ (r : RefParts). old (limbo_read v r) ≡ true) (refs_in v l.third)
  third_old = λ k d lt. ⊎_elim
      (λ (p : b.third < b.second). lt-ltb (limbo_read v (get_or (refs_in v l.third) k d)).stamp (reading v.own.guard 1) (let e = stamp_is b.third (limbo_read v (get_or (refs_in v l.third) k d)) (b.third_bag.stamped k d lt) in let f = reads_second l v b in omega arith))
      (λ (q : (b.third ≡ 0) × (l.third.count ≡ 0)). let e = q.1 in let f = b.third_bag.chain.list.count in absurd (omega arith)) b.rose

  -- and there are no others
  pub old_count : l.third.count ≡ bag_count old v.own
  old_count = ⊎_elim
      (λ (p : b.third < b.second). let same : bag_count (λ x. is_stamped b.third x && old x) v.own ≡ bag_count (is_stamped b.third) v.own = as_many (λ x. is_stamped b.third x && old x) (is_stamped b.third) (λ x e. (both (is_stamped b.third x) (old x) e).0)
      (λ x e. (λ k. e k && lt-ltb x.stamp (reading v.own.guard 1) (let s = stamp_is b.third x e in let f = reads_second l v b in omega arith) k)) 0 v.own.mine in let c = b.third_bag.whole in let z = parts in let y = others in omega arith)
      (λ (q : (b.third ≡ 0) × (l.third.count ≡ 0)). let few : bag_count (λ x. is_stamped b.third x && old x) v.own ≤ bag_count (is_stamped b.third) v.own = fewer (λ x. is_stamped b.third x && old x) (is_stamped b.third) (λ x e. (both (is_stamped b.third x) (old x) e).0) 0 v.own.mine in
      let c = b.third_bag.whole in let z = parts in let y = others in let d = q.1 in omega arith) b.rose
    where
      parts : bag_count old v.own ≡ bag_count (λ x. is_stamped b.third x && old x) v.own + bag_count (λ x. not (is_stamped b.third x) && old x) v.own
      parts = bag_parts old (is_stamped b.third) v.own

      others : bag_count (λ x. not (is_stamped b.third x) && old x) v.own ≡ 0
      others = let few = fewer (λ x. not (is_stamped b.third x) && old x) (is_other l.reading b.second b.third) (λ x e. (let p = both (not (is_stamped b.third x)) (old x) e in let ne = eqb-false x.stamp b.third (not_true (is_stamped b.third x) p.0) in
          let lt = ltb-true x.stamp (reading v.own.guard 1) p.1 in let f = reads_second l v b in let up = b.rise in is_none_of x.stamp l.reading b.second b.third (λ q. omega arith) (λ q. omega arith) ne)) 0 v.own.mine in let none = b.no_other in omega arith

  module _ (e : ℕ) (u : View) (told : LoadedControl debra v 1 e u) (new : e ≢ l.reading) where
    pub guard_anew : guard_loaded debra v 1 e told.moment ≡ reads_anew v.own.guard e
    guard_anew = ap (λ (c : Bool). cond c v.own.guard (reads_anew v.own.guard e)) (ne_eqb e (reading v.own.guard 0) (λ q. new (q ∙ reads_first l v b)))

    -- the epoch is later
    pub later : l.reading < e
    later = let s = told.shows in let lo = s.0 in let f = reads_first l v b in let ne : e ≢ l.reading = new in omega arith

    -- what left limbo
    pub left : LeftLimbo old v u
    left = subst (λ (g : Guard). LeftLimbo (debra.may_free v.setup g) v u) guard_anew (left_limbo debra v 1 e u told)

    pub third_chain : IsKept (OwnsAway u) (row_in v) (row_in u) l.third
    third_chain = left_chain old v u left Limbo l.third tt b.third_bag.chain

    -- a later bag is as it was
    pub left_bag : (n : ℕ) (bag : Chain) → b.second ≤ n → IsBag v n bag → IsBag u n bag × (refs_in u bag ≡ refs_in v bag)
    left_bag n bag le h = let x = bag_left old v u left bag h.chain (later_bag n bag le h) in
        (bag_still v u n bag h x.0 x.1 (λ r a. left_read old v u left r) (bag_over old v u left (is_stamped n) (λ i s known is passes. not_old (limbo_share i s).stamp (let q = stamp_is n (limbo_share i s) passes in omega arith))), x.1)

    -- and it has none of the third
    pub left_apart : (n : ℕ) (bag : Chain) → b.second ≤ n → IsBag v n bag → AreApart (refs_in u bag) (refs_in u l.third)
    left_apart n bag le h = subst (λ (x : List RefParts × List RefParts). AreApart x.0 x.1) (λ k. (sym (left_bag n bag le h).1 k, sym third_chain.refs k))
        (bags_apart (λ x. not (old x)) v bag l.third h.chain b.third_bag.chain (λ k d lt. ap not (later_bag n bag le h k d lt)) (λ k d lt. ap not (third_old k d lt)))

    module _ (free : Chain) (frees : IsChainOf Free v free) where
      pub free_chain : IsKept (OwnsAway u) (row_in v) (row_in u) free
      free_chain = left_chain old v u left Free free tt frees

      -- what the rows ask of the two chains
      pub third_rows : (P : Type 0) → P → IsChain (λ (r : RefParts). P × OwnsAway u r) (row_in u) l.third
      third_rows P p = chain_weaker (OwnsAway u) (λ (r : RefParts). P × OwnsAway u r) (row_in u) l.third (λ r a. (p, a)) third_chain.list

      pub free_rows : (P : Type 0) → P → IsChain (λ (r : RefParts). P × OwnsAway u r) (row_in u) free
      free_rows P p = chain_weaker (OwnsAway u) (λ (r : RefParts). P × OwnsAway u r) (row_in u) free (λ r a. (p, a)) free_chain.list

      -- nor has the free chain
      pub free_apart : AreApart (refs_in u l.third) (refs_in u free)
      free_apart = subst (λ (x : List RefParts × List RefParts). AreApart x.0 x.1) (λ k. (sym third_chain.refs k, sym free_chain.refs k)) (chains_apart Limbo Free v l.third free (λ q. cc) b.third_bag.chain frees)

      module _ (w : View) (P Q : Type 0) (after : Chain) (f : Freed) (move : HasMoved u w P Q l.third free after f) where
        abbrev gone : List RefParts
        gone = refs_in v l.third

        -- The free chain has those of the third bag that aren't spent
        in_front : FreedInFront old v free f w after
        in_front = record {
          moved = reverse (filter is_reusable gone);
          refs = move.refs ∙ (λ k. reverse (filter is_reusable (third_chain.refs k)) ++ free_chain.refs k);
          list = chain_weaker (λ (r : RefParts). Q × OwnsAway w r) (OwnsAway w) (row_in w) after (λ r x. x.1) move.list;
          left = all_reversed (λ r. IsAs Limbo v r × (old (limbo_read v r) ≡ true) × (r.generation ≢ 1048575)) (filter is_reusable gone) (λ k d lt. (
            All-filter is_reusable (IsAs Limbo v) gone b.third_bag.chain.list.owned k d lt,
            All-filter is_reusable (λ (r : RefParts). old (limbo_read v r) ≡ true) gone third_old k d lt,
            eqb-false (get_or (filter is_reusable gone) k d).generation 1048575 (not_true (is_last (get_or (filter is_reusable gone) k d)) (filter_passes is_reusable gone k d lt)),
          ));
          many = let a = length-reverse (filter is_reusable gone) in let c = length-filter_both is_reusable is_last (λ x. twice (is_last x)) gone in let d = length-filter is_last gone in let x = spent_is in let y = freed_is in omega arith;
          freed = freed_is ∙ sym b.third_bag.chain.list.count ∙ old_count;
          spent = spent_is ∙ bag_spent old v l.third b.third_bag.chain third_old old_count;
        }
          where
            twice : (c : Bool) → c ≡ not (not c)
            twice true = refl
            twice false = refl

            freed_is : f.freed ≡ length gone
            freed_is = move.freed ∙ ap (λ (rs : List RefParts). length rs) third_chain.refs

            spent_is : f.spent ≡ count_by is_last gone
            spent_is = move.spent ∙ ap (count_by is_last) third_chain.refs

        pub shift_free : IsChainOf Free w after
        shift_free = free_after old v u w left move.still free after f frees in_front

        pub shift_frees : FreesInto v free f w after
        shift_frees = frees_into old v u w left move.still free after f frees in_front

        pub shift_rest : LeavesRest v w
        shift_rest = freed_rest old v u w left move.still

        guard_is : w.own.guard ≡ reads_anew v.own.guard e
        guard_is = still_guard u w move.still ∙ ap (λ (x : View). x.own.guard) told.view ∙ guard_anew

        -- what was done
        pub shift_read : HasRead v e f w
        shift_read = record {
          made = move.still.made;
          steps = move.still.steps ∙ ap (λ (x : View). x.own.steps ++ move.still.made) told.view ∙ append_assoc v.own.steps (epoch_load v.own e ∷ []) move.still.made;
          guard = guard_is ∙ sym (ap (λ (c : Bool). cond c v.own.guard (reads_anew v.own.guard e)) (ne_eqb e (reading v.own.guard 0) (λ q. new (q ∙ reads_first l v b))));
          shifts = anew (λ q. new (q ∙ reads_first l v b)) record {
            steps = subst (λ (n : ℕ). All (IsRowStep n) move.still.made) (sym (still_idle u w move.still)) move.still.each;
            readings = ap (λ (g : Guard). g.readings) guard_is;
            mine = ap (λ (x : View). x.own.mine) move.still.rest ∙ ap (map unchained) left.mine;
            freed = in_front.freed;
            spent = in_front.spent;
          };
          counted = subst (λ (x : Setup × ℕ). x.1 < x.0.callers) (λ k. (sym (still_setup u w move.still ∙ left.setup) k, sym (still_caller u w move.still ∙ ap (λ (x : View). x.own.caller) told.view) k)) told.counted;
        }

        shift_bag : (n : ℕ) (bag : Chain) → b.second ≤ n → IsBag v n bag → IsBag w n bag
        shift_bag n bag le h = let x = left_bag n bag le h in
            let k = move.kept bag (chain_weaker (OwnsAway u) (λ (r : RefParts). P × OwnsAway u r) (row_in u) bag (λ r a. (move.was, a)) (chain_away Limbo u bag tt x.0.chain)) (left_apart n bag le h) in
            bag_still u w n bag x.0 (kept_chain Limbo (λ (r : RefParts). Q × OwnsAway w r) u w move.still bag x.0.chain k) k.refs (λ r a. still_read u w move.still r a.owns) (still_bag u w move.still (is_stamped n))

        -- The bags of the three readings now
        pub shift_bags : (third : Chain) → third.head ≡ None → third.count ≡ 0 → KeepsBags (record { reading = e; place = 0; current = third; second = l.current; third = l.second }) w
        shift_bags third head count = record {
          second = l.reading;
          third = b.second;
          readings = ap (λ (g : Guard). g.readings) guard_is ∙ (λ k. e ∷ reads_first l v b k ∷ reads_second l v b k ∷ []);
          rise = later;
          rose = inl b.rise;
          limit = told.shows.1;
          place = ap (λ (g : Guard). g.scan_place) guard_is;
          current_bag = empty_bag w e third head count (still_bag u w move.still (is_stamped e)
              ∙ bag_over old v u left (is_stamped e) (λ i s known is passes. not_old (limbo_share i s).stamp (let q = stamp_is e (limbo_share i s) passes in let z = later in let y = b.rise in omega arith)) ∙ none_new);
          second_bag = shift_bag l.reading l.current (let y = b.rise in omega arith) b.current_bag;
          third_bag = shift_bag b.second l.second (omega arith) b.second_bag;
          no_other = still_bag u w move.still (is_other e l.reading b.second) ∙ bag_after old v u left (is_other e l.reading b.second) ∙ none_other;
        }
          where
            none_new : bag_count (is_stamped e) v.own ≡ 0
            none_new = let few = fewer (is_stamped e) (is_other l.reading b.second b.third)
                (λ x q. (let s = stamp_is e x q in let z = later in let y = b.rise in let t = third_low l v b in is_none_of x.stamp l.reading b.second b.third (λ i. omega arith) (λ i. omega arith) (λ i. omega arith))) 0 v.own.mine in
                let none = b.no_other in omega arith

            none_other : bag_count (λ x. not (old x) && is_other e l.reading b.second x) v.own ≡ 0
            none_other = let few = fewer (λ x. not (old x) && is_other e l.reading b.second x) (is_other l.reading b.second b.third) (λ x q. other_then x q) 0 v.own.mine in let none = b.no_other in omega arith
              where
                other_then : (x : LimboRecord) → (not (old x) && is_other e l.reading b.second x) ≡ true → is_other l.reading b.second b.third x ≡ true
                other_then x q = let p = both (not (old x)) (is_other e l.reading b.second x) q in let ge = ltb-false x.stamp (reading v.own.guard 1) (not_true (old x) p.0) in
                    let r = both (not (eqb x.stamp e)) (not (eqb x.stamp l.reading) && not (eqb x.stamp b.second)) p.1 in let s = both (not (eqb x.stamp l.reading)) (not (eqb x.stamp b.second)) r.1 in
                    let a = eqb-false x.stamp l.reading (not_true (eqb x.stamp l.reading) s.0) in let c = eqb-false x.stamp b.second (not_true (eqb x.stamp b.second) s.1) in
                    let f = reads_second l v b in let t = third_low l v b in is_none_of x.stamp l.reading b.second b.third a c (λ i. c (omega arith))
