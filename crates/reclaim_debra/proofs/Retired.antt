-- The local part once a record was retired with the last reading and put in front of the current bag, and what that did.
use Rattle.std.proofs.Common.{◌≡◌, ◌≢◌, ℕ, ◌+◌, [], ◌∷◌, ◌++◌, get_or, All, Bool, true, false, cond, eqb, sym, ap, ◌∙◌, subst, arith}
use Rattle.std.specs.Prelude.{◌&&◌, not}
use Rattle.std.proofs.lemmas.Bool.{eq-eqb, ne_eqb}
use Rattle.std.proofs.lemmas.List.Elements.{All-cons}
use Rattle.record_memory.specs.declared.books.Setup.{Setup}
use Rattle.record_memory.specs.declared.books.View.{View}
use Rattle.record_memory.specs.declared.books.Guard.{Guard}
use Rattle.record_memory.specs.declared.books.Share.{Share}
use Rattle.row_words.specs.Refs.{RefParts}
use Rattle.row_words.specs.Packing.{packed_number}
use Rattle.row_words.proofs.Packed.{number_in-packed_number}
use Rattle.row_words.specs.declared.links.Chain.{Chain}
use Rattle.row_words.specs.declared.links.Freed.{Freed}
use Rattle.record_rule.specs.Facts.{LimboRecord}
use Rattle.record_rule.specs.Links.{HasTaken, retired_share, retired}
use Rattle.reclaim_api.specs.Bags.{limbo_read, bag_count}
use Rattle.reclaim_api.specs.Chained.{refs_in}
use Rattle.reclaim_api.specs.Putting.{IsHeadFor}
use Rattle.reclaim_api.specs.StepForms.{IsNoneFreed, stamp_store, chain_store}
use Rattle.reclaim_api.proofs.Putting.{head_for, HasPut, then_as, put_read, put_refs, put_bag, put_count, put_other}
use Rattle.reclaim_api.proofs.Putting as putting
use Rattle.reclaim_api.proofs.Retiring.{retired_read, retired_bag}
use Rattle.reclaim_api.proofs.Stills.{still_setup, still_caller, still_guard, still_bag, still_read}
use Rattle.reclaim_debra.specs.declared.bags.Bags.{Bags}
use Rattle.reclaim_debra.specs.LocalParts.{is_stamped, is_other, IsBag, KeepsBags, IsGuarded, IsLocal}
use Rattle.reclaim_debra.specs.LocalStays.{guarded_same}
use Rattle.reclaim_debra.specs.Running.{PutsAway}
use Rattle.reclaim_debra.specs.Stamped.{bag_still}
use Rattle.reclaim_debra.proofs.Loads.{reads_first, third_low}

module _ (l : Bags) (v : View) (b : KeepsBags l v) (r : RefParts) (share : Share) (taken : HasTaken v r share) where
  abbrev value : ℕ
  value = packed_number r.generation l.reading

  abbrev u : View
  u = retired v r share l.reading

  module _ (w : View) (P Q : Type 0) (after : Chain) (put : HasPut l.current u r w P Q after) where
    -- a test reads of it what it read when it was retired
    read_then : limbo_read w r ≡ limbo_read u r
    read_then = still_read u w put.still r (then_as v r share l.reading taken put.in_range).owns

    -- its stamp
    stamp_then : (limbo_read w r).stamp ≡ l.reading
    stamp_then = ap (λ (x : LimboRecord). x.stamp) (read_then ∙ retired_read v r share value taken put.in_range) ∙ number_in-packed_number r.generation l.reading (let e = b.limit in omega arith)

    is_current : is_stamped l.reading (limbo_read w r) ≡ true
    is_current = eq-eqb (limbo_read w r).stamp l.reading stamp_then

    -- how a bag grew
    count_then : (t : LimboRecord → Bool) (c : Bool) → t (limbo_read w r) ≡ c → bag_count t w.own ≡ bag_count t v.own + cond c 1 0
    count_then t c e = still_bag u w put.still t ∙ retired_bag v r share value taken put.in_range t ∙ ap (λ (x : Bool). bag_count t v.own + cond x 1 0) (ap t (sym read_then) ∙ e)

    -- the other bags
    other_bag : (n : ℕ) (bag : Chain) → l.reading ≢ n → IsBag v n bag → IsBag w n bag
    other_bag n bag ne h = let x = put_other v r share l.reading taken w l.current P Q after put bag h.chain in
        bag_still v w n bag h x.0 x.1 (put_read v r share l.reading taken w put.still) (let c = count_then (is_stamped n) false (ne_eqb (limbo_read w r).stamp n (λ e. ne (sym stamp_then ∙ e))) in omega arith)

    -- the current one
    current_bag : IsBag w l.reading after
    current_bag = let h = b.current_bag in record {
      chain = put_bag v r share l.reading taken w l.current P Q after put h.chain;
      stamped = subst (All (λ (q : RefParts). is_stamped l.reading (limbo_read w q) ≡ true)) (sym (put_refs v r share l.reading taken w l.current P Q after put h.chain))
          (All-cons (λ (q : RefParts). is_stamped l.reading (limbo_read w q) ≡ true) r (refs_in v l.current) is_current
          (λ k d lt. ap (is_stamped l.reading) (put_read v r share l.reading taken w put.still _ (h.chain.list.owned k d lt)) ∙ h.stamped k d lt));
      whole = let a = put_count v r share l.reading taken w l.current P Q after put h.chain in let d = h.whole in let e = count_then (is_stamped l.reading) true is_current in omega arith;
    }

    put_bags : KeepsBags (record l { current = after }) w
    put_bags = record {
      second = b.second;
      third = b.third;
      readings = ap (λ (g : Guard). g.readings) (still_guard u w put.still) ∙ b.readings;
      rise = b.rise;
      rose = b.rose;
      limit = b.limit;
      place = ap (λ (g : Guard). g.scan_place) (still_guard u w put.still) ∙ b.place;
      current_bag = current_bag;
      second_bag = other_bag b.second l.second (λ e. (let up = b.rise in omega arith)) b.second_bag;
      third_bag = other_bag b.third l.third (λ e. (let up = b.rise in let low = third_low l v b in omega arith)) b.third_bag;
      no_other = let d = b.no_other in
          let c = count_then (is_other l.reading b.second b.third) false (ap (λ (d : Bool). not d && (not (eqb (limbo_read w r).stamp b.second) && not (eqb (limbo_read w r).stamp b.third))) is_current) in omega arith;
    }

    -- so the local part is this caller's still
    pub put_local : (since later : View) (x y : Bool) → y ≡ x → later ≡ since → IsGuarded x since v → IsLocal (record l { current = after }) y later w
    put_local since later x y then same h = record {
      bags = put_bags;
      guarded = subst (λ (z : Bool × View). IsGuarded z.0 z.1 w) (λ k. (sym then k, sym same k)) (guarded_same x since v w (still_setup u w put.still) (still_caller u w put.still) (still_guard u w put.still) h);
    }

    -- what putting it away did
    pub put_steps : (setup : Setup) (f : Freed) → IsNoneFreed f → PutsAway setup v.own r f w.own
    put_steps setup f none = record {
      none = none;
      stamped = get_or share.words 2 0;
      chained = get_or (retired_share share value).words 1 0;
      next = l.current.head;
      before = subst (λ (n : ℕ). IsHeadFor (is_stamped n) v.own l.current.head) (sym (reads_first l v b)) (head_for (is_stamped l.reading) v l.current b.current_bag.chain b.current_bag.stamped b.current_bag.whole);
      steps = putting.put_steps v r share l.reading taken w l.current.head put.made
          ∙ ap (λ (n : ℕ). v.own.steps ++ stamp_store v.own r n (get_or share.words 2 0) ∷ chain_store v.own r l.current.head (get_or (retired_share share value).words 1 0) ∷ []) (sym (reads_first l v b));
    }
