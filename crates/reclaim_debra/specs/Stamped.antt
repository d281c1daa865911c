-- Bags stay bags where their records do.
use Rattle.std.proofs.Common.{◌≡◌, ℕ, List, All, Bool, true, None, sym, ap, ◌∙◌, subst}
use Rattle.std.proofs.lemmas.List.Elements.{All-nil}
use Rattle.record_memory.specs.declared.books.View.{View}
use Rattle.record_memory.specs.declared.books.Standing.TheVariants.{Limbo}
use Rattle.row_words.specs.Refs.{RefParts}
use Rattle.row_words.specs.Rows.{Row}
use Rattle.row_words.specs.declared.links.Chain.{Chain}
use Rattle.limbo_bags.proofs.Chains.{chain_empty}
use Rattle.record_rule.specs.ChainRows.{row_in}
use Rattle.record_rule.specs.Facts.{LimboRecord}
use Rattle.reclaim_api.specs.Bags.{limbo_read, bag_count}
use Rattle.reclaim_api.specs.Chained.{IsAs, IsChainOf, refs_in}
use Rattle.reclaim_api.proofs.Kept.{Stays, row_stays, chain_stays, refs_stay}
use Rattle.reclaim_debra.specs.declared.bags.Bags.{Bags}
use Rattle.reclaim_debra.specs.LocalParts.{is_stamped, is_other, IsBag, KeepsBags}

-- a bag whose records are in limbo still, and which has all of its stamp
pub bag_still : (v w : View) (n : ℕ) (bag : Chain) → IsBag v n bag → IsChainOf Limbo w bag → refs_in w bag ≡ refs_in v bag → ((r : RefParts) → IsAs Limbo v r → limbo_read w r ≡ limbo_read v r) → bag_count (is_stamped n) w.own ≡ bag_count (is_stamped n) v.own → IsBag w n bag
bag_still v w n bag b chain refs same count = record {
  chain = chain;
  stamped = subst (λ (l : List RefParts). All (λ (r : RefParts). is_stamped n (limbo_read w r) ≡ true) l) (sym refs) (λ k d h. ap (is_stamped n) (same _ (b.chain.list.owned k d h)) ∙ b.stamped k d h);
  whole = b.whole ∙ sym count;
}

-- as it is where its records stay
pub bag_stays : (v w : View) (n : ℕ) (bag : Chain) → w.setup.records ≡ v.setup.records → Stays Limbo v w → bag_count (is_stamped n) w.own ≡ bag_count (is_stamped n) v.own → IsBag v n bag → IsBag w n bag
bag_stays v w n bag records stays count b = bag_still v w n bag b (chain_stays Limbo v w records stays bag b.chain) (refs_stay Limbo v w records stays bag b.chain)
    (λ r a. ap (λ (row : Row). record { reference = r; birth = row.birth; stamp = row.stamp }) (row_stays Limbo v w records stays r a)) count

-- so all bags stay, and the scan's place is another one
pub bags_stay : (l : Bags) (v w : View) (place : ℕ) → w.setup.records ≡ v.setup.records → Stays Limbo v w → ((t : LimboRecord → Bool) → bag_count t w.own ≡ bag_count t v.own) → w.own.guard.readings ≡ v.own.guard.readings → w.own.guard.scan_place ≡ place
    → KeepsBags l v → KeepsBags (record l { place = place }) w
bags_stay l v w place records stays count readings scan b = record {
  second = b.second;
  third = b.third;
  readings = readings ∙ b.readings;
  rise = b.rise;
  rose = b.rose;
  limit = b.limit;
  place = scan;
  current_bag = bag_stays v w l.reading l.current records stays (count (is_stamped l.reading)) b.current_bag;
  second_bag = bag_stays v w b.second l.second records stays (count (is_stamped b.second)) b.second_bag;
  third_bag = bag_stays v w b.third l.third records stays (count (is_stamped b.third)) b.third_bag;
  no_other = count (is_other l.reading b.second b.third) ∙ b.no_other;
}

-- an empty bag, where the caller has no such record in limbo
pub empty_bag : (v : View) (n : ℕ) (bag : Chain) → bag.head ≡ None → bag.count ≡ 0 → bag_count (is_stamped n) v.own ≡ 0 → IsBag v n bag
empty_bag v n bag head count none = let e = chain_empty (IsAs Limbo v) (row_in v) bag head count in record {
  chain = record { list = e.1 };
  stamped = subst (λ (l : List RefParts). All (λ (r : RefParts). is_stamped n (limbo_read v r) ≡ true) l) (sym e.0) (All-nil (λ (r : RefParts). is_stamped n (limbo_read v r) ≡ true));
  whole = count ∙ sym none;
}
