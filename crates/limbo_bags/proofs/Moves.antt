-- How a chain is emptied from its head, and how its records go in front of another.
use Rattle.std.proofs.Common.{◌≡◌, ◌≢◌, ℕ, ◌≤◌, ◌+◌, ◌^◌, ◌++◌, count_by, Bool, true, false, cond, not, ◌&&◌, List, [], ◌∷◌, length, reverse, get_or, filter, All, AllPairs, Contains, refl, sym, ap, ◌∙◌, subst, arith}
use mathlib.Core.Logic.{⊎_elim}
use Rattle.std.proofs.lemmas.Bool.{cases_lt, cases_eq}
use Rattle.std.proofs.lemmas.List.{append-nil, append_assoc, reverse-append, get_or_default}
use Rattle.std.proofs.lemmas.List.Sums.{count_by-le-length, sum_by-cons}
use Rattle.std.proofs.lemmas.List.Elements.{All-head, All-tail, All-cons, All-weaker, All-contains, All-contains_itself}
use Rattle.row_words.specs.Refs.{RefParts, IsRef}
use Rattle.row_words.specs.Rows.{Row}
use Rattle.row_words.specs.declared.links.Chain.{Chain}
use Rattle.limbo_bags.specs.Chains.{refs_of, IsApart, IsChain, IsKept}
use Rattle.limbo_bags.specs.Wholes.{AreApart, KeepsTimes, passes}
use Rattle.limbo_bags.proofs.Chains.{chain_kept, rows_apart}
use Rattle.limbo_bags.proofs.Counts.{length-le_from_refs}

-- of records that differ, two of one index are one
one_of_index : (refs : List RefParts) (q r : RefParts) → AllPairs (λ a b. a.index ≢ b.index) refs → Contains refs q → Contains refs r → q.index ≡ r.index → q ≡ r
one_of_index refs q r d (i, hi, ei) (j, hj, ej) e =
    let at : get_or refs j q ≡ r = get_or_default refs j q r hj ∙ ej in
    let index : RefParts → _ = λ t. t.index in
    ⊎_elim
    (λ less. absurd (d i j q less hj (ap index ei ∙ e ∙ sym (ap index at))))
    (λ most. ⊎_elim
    (λ more. absurd (d j i q more hi (ap index at ∙ sym e ∙ sym (ap index ei))))
    (λ least. let same : i ≡ j = omega arith in sym ei ∙ ap (λ n. get_or refs n q) same ∙ at)
    (cases_lt j i))
    (cases_lt i j)

-- births and stamps stay where one record gets another chain word
pub times_put : (old now new : RefParts → Row) (refs : List RefParts) (r : RefParts) → AllPairs (λ a b. a.index ≢ b.index) refs → All (λ q. KeepsTimes (old q) (now q)) refs → Contains refs r → KeepsTimes (now r) (new r)
    → ((q : RefParts) → q.index ≢ r.index → new q ≡ now q) → All (λ q. KeepsTimes (old q) (new q)) refs
times_put old now new refs r d times c t rows =
    let Was : RefParts → Type 0 = λ q. KeepsTimes (old q) (now q) in
    let Is : RefParts → Type 0 = λ q. KeepsTimes (old q) (new q) in
    let was = All-contains Was refs r times c in
    let here : Is r = record { birth = t.birth ∙ was.birth; stamp = t.stamp ∙ was.stamp } in
    let each : (q : RefParts) → Contains refs q → Is q = λ q k. ⊎_elim
    (λ same. subst Is (sym (one_of_index refs q r d k c same)) here)
    (λ other. subst (KeepsTimes (old q)) (sym (rows q other)) (All-contains Was refs q times k))
    (cases_eq q.index r.index) in
    All-weaker (Contains refs) Is each refs (All-contains_itself refs)

-- a chain that had these records is emptied from its head on; their births and stamps stay, and all other rows
pub record Empties (owns owns' : RefParts → Type 0) (old new : RefParts → Row) (refs : List RefParts) (from : Chain) : Type 0 where
  pub list : IsChain owns' new from
  pub inside : All (Contains refs) (refs_of new from)
  pub times : All (λ r. KeepsTimes (old r) (new r)) refs
  pub others : (q : RefParts) → IsApart q refs → new q ≡ old q
  pub owned : (q : RefParts) → owns q → owns' q

-- no record is taken off yet
pub empties_first : (owns : RefParts → Type 0) (old : RefParts → Row) (from : Chain) → IsChain owns old from → Empties owns owns old old (refs_of old from) from
empties_first owns old from h = record {
  list = h;
  inside = All-contains_itself (refs_of old from);
  times = λ k d b. record { birth = refl; stamp = refl };
  others = λ q a. refl;
  owned = λ q o. o;
}

module _ (owns : RefParts → Type 0) (old : RefParts → Row) (refs : List RefParts) where
  -- the first record is taken off
  pub empties_popped : (o o' : RefParts → Type 0) (now new : RefParts → Row) (from after : Chain) (r : RefParts) → Empties owns o old now refs from → refs_of now from ≡ r ∷ refs_of new after → IsChain o' new after
      → ((q : RefParts) → new q ≡ now q) → ((q : RefParts) → o q → o' q) → Contains refs r × Empties owns o' old new refs after
  empties_popped o o' now new from after r h e list rows owned =
      let inside = subst (All (Contains refs)) e h.inside in (
        All-head (Contains refs) r _ inside,
        record {
          list = list;
          inside = All-tail (Contains refs) r _ inside;
          times = All-weaker (λ q. KeepsTimes (old q) (now q)) (λ q. KeepsTimes (old q) (new q)) (λ q t. subst (KeepsTimes (old q)) (sym (rows q)) t) refs h.times;
          others = λ q a. rows q ∙ h.others q a;
          owned = λ q w. owned q (h.owned q w);
        },
      )

  -- the record that was taken off gets another chain word
  pub empties_put : (o o' : RefParts → Type 0) (now new : RefParts → Row) (from : Chain) (r : RefParts) → AllPairs (λ a b. a.index ≢ b.index) refs → Empties owns o old now refs from → Contains refs r → IsApart r (refs_of now from)
      → KeepsTimes (now r) (new r) → ((q : RefParts) → q.index ≢ r.index → new q ≡ now q) → ((q : RefParts) → o q → o' q) → (refs_of new from ≡ refs_of now from) × Empties owns o' old new refs from
  empties_put o o' now new from r d h c a t rows owned =
      let kept = chain_kept o o' now new from owned (rows_apart now new r _ rows a) h.list in (
        kept.refs,
        record {
          list = kept.list;
          inside = subst (All (Contains refs)) (sym kept.refs) h.inside;
          times = times_put old now new refs r d h.times c t rows;
          others = λ q b. rows q (λ e. All-contains (λ s. s.index ≢ q.index) refs r b c (sym e)) ∙ h.others q b;
          owned = λ q w. owned q (h.owned q w);
        },
      )

-- the records of the first list that the test picks go in front of the second, one after another
pub record Sends (test : RefParts → Bool) (all : List RefParts) (from to : List RefParts) : Type 0 where
  pub apart : AreApart from to
  pub refs : reverse (filter test from) ++ to ≡ all

-- nothing is sent yet to a chain without records
pub sends_first : (test : RefParts → Bool) (refs to : List RefParts) → to ≡ [] → Sends test (reverse (filter test refs)) refs to
sends_first test refs to e =
    subst (λ t. Sends test (reverse (filter test refs)) refs t) (sym e) (record { apart = λ i d k j b h. absurd (omega arith); refs = append-nil (reverse (filter test refs)) })

-- the record taken off is in no chain that the first one is apart from
pub popped_apart : (from rest to now : List RefParts) (r : RefParts) → AreApart from to → from ≡ r ∷ rest → now ≡ to → IsApart r now
popped_apart from rest to now r h e same =
    subst (IsApart r) (sym same) (All-head (λ q. IsApart q to) r rest (subst (λ t. AreApart t to) e h))

-- records stay apart from a list that gets one more, which is none of them
apart_cons : (refs others : List RefParts) (r : RefParts) → IsApart r refs → AreApart refs others → AreApart refs (r ∷ others)
apart_cons refs others r a h i d k =
    let index = (get_or refs i d).index in
    All-cons (λ (q : RefParts). q.index ≢ index) r others (λ e. a i d k (sym e)) (h i d k)

-- the same where it gets one or none
apart_chosen : (chosen : Bool) (refs others : List RefParts) (r : RefParts) → IsApart r refs → AreApart refs others → AreApart refs (cond chosen (r ∷ others) others)
apart_chosen false refs others r a h = h
apart_chosen true refs others r a h = apart_cons refs others r a h

-- a first record that is chosen is sent first
sent : (chosen : Bool) (r : RefParts) (rest to : List RefParts) → reverse (cond chosen (r ∷ rest) rest) ++ to ≡ reverse rest ++ cond chosen (r ∷ to) to
sent false r rest to = refl
sent true r rest to = ap (λ t. t ++ to) (reverse-append (r ∷ []) rest) ∙ append_assoc (reverse rest) (r ∷ []) to

-- one record goes in front of the second list where the test picks it
pub sends_step : (test : RefParts → Bool) (all from rest left to after : List RefParts) (r : RefParts) → Sends test all from to → from ≡ r ∷ rest → left ≡ rest → IsApart r rest → after ≡ cond (test r) (r ∷ to) to → Sends test all left after
sends_step test all from rest left to after r h e same a put =
    let was = subst (λ t. Sends test all t to) e h in
    let tail = All-tail (λ q. IsApart q to) r rest was.apart in
    let sent_on : Sends test all rest after = record {
      apart = subst (AreApart rest) (sym put) (apart_chosen (test r) rest to r a tail);
      refs = ap (λ t. reverse (filter test rest) ++ t) put ∙ sym (sent (test r) r (filter test rest) to) ∙ was.refs;
    } in
    subst (λ t. Sends test all t after) (sym same) sent_on

-- a chain that none of the emptied chain's records is in stays the same list
pub others_kept : (owns owns' : RefParts → Type 0) (old new : RefParts → Row) (refs : List RefParts) (from other : Chain) → Empties owns owns' old new refs from → IsChain owns old other → AreApart (refs_of old other) refs → IsKept owns' old new other
others_kept owns owns' old new refs from other h list apart =
    chain_kept owns owns' old new other h.owned (λ i d k. h.others _ (apart i d k)) list

-- a count without the first record
pub count_popped : (test : RefParts → Bool) (refs rest : List RefParts) (r : RefParts) → refs ≡ r ∷ rest → count_by test refs ≡ cond (test r) 1 0 + count_by test rest
count_popped test refs rest r e = ap (count_by test) e ∙ sum_by-cons (λ x. cond (test x) 1 0) r rest

-- counts of records that left a list fit
pub count_fits : (test : RefParts → Bool) (refs left : List RefParts) (count : ℕ) → AllPairs (λ a b. a.index ≢ b.index) refs → All IsRef refs → count + count_by test left ≡ count_by test refs → count ≤ 2 ^ 20
count_fits test refs left count d h e = omega (arith, e, count_by-le-length test refs, length-le_from_refs refs d h)

-- the same of all records that left it
pub length_fits : (refs left : List RefParts) (count : ℕ) → AllPairs (λ a b. a.index ≢ b.index) refs → All IsRef refs → count + length left ≡ length refs → count ≤ 2 ^ 20
length_fits refs left count d h e = omega (arith, e, length-le_from_refs refs d h)

-- a test finds the same where the birth and the stamp stayed
pub passes_same : (kept : RefParts → ℕ → ℕ → Bool) (old now : RefParts → Row) (r : RefParts) → KeepsTimes (old r) (now r) → passes kept now r ≡ passes kept old r
passes_same kept old now r t = ap (λ n. kept r n (now r).stamp) t.birth ∙ ap (λ n. kept r (old r).birth n) t.stamp

-- a record goes in front of one chain at most, so the two stay apart
pub sorted_apart : (chosen reusable : Bool) (r : RefParts) (kept free : List RefParts) → AreApart kept free → IsApart r kept → IsApart r free → AreApart (cond chosen (r ∷ kept) kept) (cond (not chosen && reusable) (r ∷ free) free)
sorted_apart true reusable r kept free h a b = All-cons (λ q. IsApart q free) r kept b h
sorted_apart false reusable r kept free h a b = apart_chosen reusable kept free r a h
