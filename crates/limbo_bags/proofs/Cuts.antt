-- Where a chain is cut, and the two chains that this makes.
use Rattle.std.proofs.Common.{◌≡◌, ◌≢◌, ℕ, zero, suc, ◌<◌, ◌≤◌, ◌+◌, ◌-◌, ◌++◌, Option, Some, None, List, [], ◌∷◌, length, take, drop, get_or, All, AllPairs, refl, sym, ap, ◌∙◌, subst, arith}
use Rattle.std.proofs.lemmas.List.{get_or-take, get_or-drop, get_or_default, length-take-le, length-drop, take-append-drop}
use Rattle.std.proofs.lemmas.List.Elements.{All-take, All-drop, All-weaker}
use Rattle.row_words.specs.Refs.{RefParts, IsRef}
use Rattle.row_words.specs.Rows.{Row, with_next}
use Rattle.row_words.specs.declared.links.Chain.{Chain}
use Rattle.limbo_bags.specs.Chains.{refs_of, Leads, IsList, IsChain, IsKept}
use Rattle.limbo_bags.specs.Wholes.{AreApart, KeepsTimes}
use Rattle.limbo_bags.proofs.Chains.{chain_kept, leads_kept, rows_apart, refs_of-list, chain_of_list}
use Rattle.limbo_bags.proofs.Counts.{AllPairs-head, AllPairs-tail}
use Rattle.limbo_bags.proofs.Moves.{times_put}

-- the chain word of a record leads to the one after it
leads_next : (rows : RefParts → Row) (head : Option RefParts) (refs : List RefParts) (n : ℕ) (d : RefParts) → Leads rows head refs → suc n < length refs → (rows (get_or refs n d)).next ≡ Some (get_or refs (suc n) d)
leads_next rows head [] n d h k = absurd (omega arith)
leads_next rows head (r ∷ []) n d h k = absurd (omega arith)
leads_next rows head (r ∷ q ∷ rs) zero d h k = h.1.0
leads_next rows head (r ∷ q ∷ rs) (suc n) d h k = leads_next rows (rows r).next (q ∷ rs) n d h.1 (omega arith)

-- what is found in the chain word of the record at place n
pub found_next : (rows now : RefParts → Row) (head found : Option RefParts) (refs : List RefParts) (n : ℕ) (r : RefParts) → Leads rows head refs → suc n < length refs → get_or refs n r ≡ r → now r ≡ rows r → found ≡ (now r).next → found ≡ Some (get_or refs (suc n) r)
found_next rows now head found refs n r h k place same e =
    e ∙ ap (λ (row : Row). row.next) same ∙ ap (λ q. (rows q).next) (sym place) ∙ leads_next rows head refs n r h k

-- the head leads to the first record
pub leads_first : (rows : RefParts → Row) (head : Option RefParts) (refs : List RefParts) (d : RefParts) → Leads rows head refs → 0 < length refs → head ≡ Some (get_or refs 0 d)
leads_first rows head [] d h k = absurd (omega arith)
leads_first rows head (r ∷ rs) d h k = h.0

-- one record's chain word is emptied: the chain ends there, and what came after it is a chain
leads_cut : (old new : RefParts → Row) (head : Option RefParts) (refs : List RefParts) (n : ℕ) (last : RefParts) → Leads old head refs → n < length refs → get_or refs n last ≡ last → AllPairs (λ a b. a.index ≢ b.index) refs
    → ((q : RefParts) → q.index ≢ last.index → new q ≡ old q) → (new last).next ≡ None → Leads new head (take (suc n) refs) × Leads new (old last).next (drop (suc n) refs)
leads_cut old new head [] n last h k at d others end = absurd (omega arith)
leads_cut old new head (r ∷ rs) zero last h k at d others end =
    let apart = All-weaker (λ (q : RefParts). r.index ≢ q.index) (λ q. q.index ≢ last.index) (λ q n e. n (ap (λ (t : RefParts). t.index) at ∙ sym e)) rs (AllPairs-head (λ a b. a.index ≢ b.index) r rs d) in
    let rest = leads_kept old new (old r).next rs (rows_apart old new last rs others apart) h.1 in
    ((h.0, subst (λ q. (new q).next ≡ None) (sym at) end), subst (λ q. Leads new (old q).next rs) at rest)
leads_cut old new head (r ∷ rs) (suc n) last h k at d others end =
    let far : r.index ≢ (get_or rs n last).index = AllPairs-head (λ a b. a.index ≢ b.index) r rs d n last (omega arith) in
    let here : new r ≡ old r = others r (λ e. far (e ∙ ap (λ (t : RefParts). t.index) (sym at))) in
    let rest = leads_cut old new (old r).next rs n last h.1 (omega arith) at (AllPairs-tail (λ a b. a.index ≢ b.index) r rs d) others end in
    ((h.0, subst (λ (row : Row). Leads new row.next (take (suc n) rs)) (sym here) rest.0), rest.1)

-- what holds of each two of a list holds of each two of a part
module _ {X : Type 0} (R : X → X → Type 0) (xs : List X) (n : ℕ) (h : AllPairs R xs) where
  AllPairs-take : n ≤ length xs → AllPairs R (take n xs)
  AllPairs-take k i j d less within =
      let long = length-take-le n xs k in
      rw (get_or-take n xs i d (omega (arith, long)), get_or-take n xs j d (omega (arith, long))) (h i j d less (omega (arith, long)))

  AllPairs-drop : AllPairs R (drop n xs)
  AllPairs-drop i j d less within =
      let long = length-drop n xs in
      rw (get_or-drop n xs i d, get_or-drop n xs j d) (h (n + i) (n + j) d (omega arith) (omega (arith, long)))

-- no record of the first part is in the second
parts_apart : (refs : List RefParts) (n : ℕ) → n ≤ length refs → AllPairs (λ a b. a.index ≢ b.index) refs → AreApart (take n refs) (drop n refs)
parts_apart refs n k h i d within j e inside =
    let long = length-take-le n refs k in
    let rest = length-drop n refs in
    let one = get_or-take n refs i d (omega (arith, long)) in
    let two = get_or-drop n refs j e ∙ get_or_default refs (n + j) e d (omega (arith, rest)) in
    rw (one, two) (λ same. h i (n + j) d (omega (arith, long)) (omega (arith, rest)) (sym same))

-- a chain is cut after n records and one more, the last of which gets no record after it
pub record IsCut (owns owns' : RefParts → Type 0) (old new : RefParts → Row) (n : ℕ) (chain first rest : Chain) (last : RefParts) : Type 0 where
  pub list : IsChain owns old chain
  pub fits : n < chain.count
  pub place : get_or (refs_of old chain) n last ≡ last
  pub stored : new last ≡ with_next (old last) None
  pub others : (q : RefParts) → q.index ≢ last.index → new q ≡ old q
  pub owned : (q : RefParts) → owns q → owns' q
  pub first_head : first.head ≡ chain.head
  pub first_count : first.count ≡ n + 1
  pub rest_head : rest.head ≡ (old last).next
  pub rest_count : rest.count ≡ chain.count - (n + 1)

-- what a cut makes
pub record Halves (owns : RefParts → Type 0) (old new : RefParts → Row) (chain first rest : Chain) : Type 0 where
  pub refs : refs_of old chain ≡ refs_of new first ++ refs_of new rest
  pub first_list : IsChain owns new first
  pub rest_list : IsChain owns new rest
  pub apart : AreApart (refs_of new first) (refs_of new rest)
  pub times : All (λ r. KeepsTimes (old r) (new r)) (refs_of old chain)

pub chain_cut : (owns owns' : RefParts → Type 0) (old new : RefParts → Row) (n : ℕ) (chain first rest : Chain) (last : RefParts) → IsCut owns owns' old new n chain first rest last → Halves owns' old new chain first rest
chain_cut owns owns' old new n chain first rest last h =
    let refs = refs_of old chain in
    let list = h.list in
    let fits : n < length refs = omega (arith, h.fits, list.count) in
    let most : suc n ≤ length refs = omega (arith, fits) in
    let leads = leads_cut old new chain.head refs n last list.leads fits h.place list.distinct h.others (ap (λ (row : Row). row.next) h.stored) in
    let taken : IsList owns' new first (take (suc n) refs) = record {
      leads = subst (λ t. Leads new t (take (suc n) refs)) (sym h.first_head) leads.0;
      count = omega (arith, h.first_count, length-take-le (suc n) refs most);
      distinct = AllPairs-take (λ a b. a.index ≢ b.index) refs (suc n) list.distinct most;
      in_range = All-take IsRef (suc n) refs list.in_range;
      owned = All-take owns' (suc n) refs (All-weaker owns owns' h.owned refs list.owned);
    } in
    let left : IsList owns' new rest (drop (suc n) refs) = record {
      leads = subst (λ t. Leads new t (drop (suc n) refs)) (sym h.rest_head) leads.1;
      count = omega (arith, h.rest_count, list.count, length-drop (suc n) refs);
      distinct = AllPairs-drop (λ a b. a.index ≢ b.index) refs (suc n) list.distinct;
      in_range = All-drop IsRef (suc n) refs list.in_range;
      owned = All-drop owns' (suc n) refs (All-weaker owns owns' h.owned refs list.owned);
    } in
    let one = refs_of-list owns' new first _ taken in
    let two = refs_of-list owns' new rest _ left in
    let here : KeepsTimes (old last) (new last) = record { birth = ap (λ (row : Row). row.birth) h.stored; stamp = ap (λ (row : Row). row.stamp) h.stored } in
    record {
      refs = sym (take-append-drop (suc n) refs) ∙ ap (λ t. t ++ drop (suc n) refs) (sym one) ∙ ap (λ t. refs_of new first ++ t) (sym two);
      first_list = chain_of_list owns' new first _ taken;
      rest_list = chain_of_list owns' new rest _ left;
      apart = rw (one, two) (parts_apart refs (suc n) most list.distinct);
      times = times_put old old new refs last list.distinct (λ k d b. record { birth = refl; stamp = refl }) (n, fits, h.place) here h.others;
    }

-- a chain that none of the cut chain's records is in stays the same list
pub others_kept_by_cut : (owns owns' : RefParts → Type 0) (old new : RefParts → Row) (n : ℕ) (chain first rest other : Chain) (last : RefParts) → IsCut owns owns' old new n chain first rest last
    → IsChain owns old other → AreApart (refs_of old other) (refs_of old chain) → IsKept owns' old new other
others_kept_by_cut owns owns' old new n chain first rest other last h list apart =
    let index : RefParts → ℕ = λ t. t.index in
    let fits : n < length (refs_of old chain) = omega (arith, h.fits, h.list.count) in
    chain_kept owns owns' old new other h.owned (λ i d k. h.others _ (λ e. apart i d k n last fits (ap index h.place ∙ sym e))) list
