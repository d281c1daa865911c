-- How the list of a chain changes.
use Rattle.std.proofs.Common.{◌≡◌, ◌≢◌, ◌+◌, ◌-◌, Option, Some, None, List, [], ◌∷◌, length, All, refl, sym, ap, ◌∙◌, subst, arith}
use Rattle.std.proofs.lemmas.List.Elements.{All-nil, All-head, All-tail, All-cons, All-weaker}
use Rattle.std.proofs.lemmas.List.Kept.{AllPairs-cons}
use Rattle.row_words.specs.Refs.{RefParts, IsRef}
use Rattle.row_words.specs.Rows.{Row, with_next}
use Rattle.row_words.specs.declared.links.Chain.{Chain}
use Rattle.limbo_bags.specs.Chains.{along, refs_of, Leads, IsApart, IsList, IsChain, IsKept}
use Rattle.limbo_bags.proofs.Counts.{AllPairs-head, AllPairs-tail}

pub along-leads : (rows : RefParts → Row) (head : Option RefParts) (refs : List RefParts) → Leads rows head refs → along rows (length refs) head ≡ refs
along-leads rows head [] h = refl
along-leads rows head (r ∷ rs) h = rw h.0 (ap (λ t. r ∷ t) (along-leads rows (rows r).next rs h.1))

-- a chain is a list of one list of records alone
pub refs_of-list : (owns : RefParts → Type 0) (rows : RefParts → Row) (chain : Chain) (refs : List RefParts) → IsList owns rows chain refs → refs_of rows chain ≡ refs
refs_of-list owns rows chain refs h = rw h.count (along-leads rows chain.head refs h.leads)

pub chain_of_list : (owns : RefParts → Type 0) (rows : RefParts → Row) (chain : Chain) (refs : List RefParts) → IsList owns rows chain refs → IsChain owns rows chain
chain_of_list owns rows chain refs h =
    subst (λ rs. IsList owns rows chain rs) (sym (refs_of-list owns rows chain refs h)) h

pub leads_kept : (old new : RefParts → Row) (head : Option RefParts) (refs : List RefParts) → All (λ q. new q ≡ old q) refs → Leads old head refs → Leads new head refs
leads_kept old new head [] e h = h
leads_kept old new head (r ∷ rs) e h =
    let here = All-head (λ q. new q ≡ old q) r rs e in
    (h.0, subst (λ (row : Row). Leads new row.next rs) (sym here) (leads_kept old new (old r).next rs (All-tail (λ q. new q ≡ old q) r rs e) h.1))

-- a list stays one where its records' rows stay
pub list_kept : (owns owns' : RefParts → Type 0) (old new : RefParts → Row) (chain : Chain) (refs : List RefParts) → ((q : RefParts) → owns q → owns' q) → All (λ q. new q ≡ old q) refs → IsList owns old chain refs → IsList owns' new chain refs
list_kept owns owns' old new chain refs o e h = record {
  leads = leads_kept old new chain.head refs e h.leads;
  count = h.count;
  distinct = h.distinct;
  in_range = h.in_range;
  owned = All-weaker owns owns' o refs h.owned;
}

pub chain_kept : (owns owns' : RefParts → Type 0) (old new : RefParts → Row) (chain : Chain) → ((q : RefParts) → owns q → owns' q) → All (λ q. new q ≡ old q) (refs_of old chain) → IsChain owns old chain → IsKept owns' old new chain
chain_kept owns owns' old new chain o e h =
    let kept = list_kept owns owns' old new chain (refs_of old chain) o e h in
    record { refs = refs_of-list owns' new chain _ kept; list = chain_of_list owns' new chain _ kept }

-- rows that stay but at one record stay at the records that it is none of
pub rows_apart : (old new : RefParts → Row) (r : RefParts) (refs : List RefParts) → ((q : RefParts) → q.index ≢ r.index → new q ≡ old q) → IsApart r refs → All (λ q. new q ≡ old q) refs
rows_apart old new r refs o a =
    All-weaker (λ q. q.index ≢ r.index) (λ q. new q ≡ old q) (λ q n. o q n) refs a

-- a record in front of a list
pub list_pushed : (owns owns' : RefParts → Type 0) (old new : RefParts → Row) (chain after : Chain) (r : RefParts) (refs : List RefParts) → IsList owns old chain refs → owns r → IsRef r → IsApart r refs → ((q : RefParts) → owns q → owns' q)
    → ((q : RefParts) → q.index ≢ r.index → new q ≡ old q) → new r ≡ with_next (old r) chain.head → after.head ≡ Some r → after.count ≡ chain.count + 1 → IsList owns' new after (r ∷ refs)
list_pushed owns owns' old new chain after r refs h w b a o others stored head count =
    let rest = list_kept owns owns' old new chain refs o (rows_apart old new r refs others a) h in
    record {
      leads = (head, subst (λ (row : Row). Leads new row.next refs) (sym stored) rest.leads);
      count = omega (arith, count, h.count);
      distinct = AllPairs-cons (λ a b. a.index ≢ b.index) r refs (All-weaker (λ q. q.index ≢ r.index) (λ q. r.index ≢ q.index) (λ q n e. n (sym e)) refs a) h.distinct;
      in_range = All-cons IsRef r refs b h.in_range;
      owned = All-cons owns' r refs (o r w) rest.owned;
    }

pub chain_pushed : (owns owns' : RefParts → Type 0) (old new : RefParts → Row) (chain after : Chain) (r : RefParts) → IsChain owns old chain → owns r → IsRef r → IsApart r (refs_of old chain) → ((q : RefParts) → owns q → owns' q)
    → ((q : RefParts) → q.index ≢ r.index → new q ≡ old q) → new r ≡ with_next (old r) chain.head → after.head ≡ Some r → after.count ≡ chain.count + 1 → (refs_of new after ≡ r ∷ refs_of old chain) × IsChain owns' new after
chain_pushed owns owns' old new chain after r h w b a o others stored head count =
    let pushed = list_pushed owns owns' old new chain after r (refs_of old chain) h w b a o others stored head count in
    (refs_of-list owns' new after _ pushed, chain_of_list owns' new after _ pushed)

-- a list without its first record
pub list_popped : (owns owns' : RefParts → Type 0) (old new : RefParts → Row) (chain after : Chain) (r : RefParts) (refs : List RefParts) → IsList owns old chain (r ∷ refs) → ((q : RefParts) → owns q → owns' q) → ((q : RefParts) → new q ≡ old q)
    → after.head ≡ (old r).next → after.count ≡ chain.count - 1 → IsList owns' new after refs × owns' r × IsApart r refs × IsRef r
list_popped owns owns' old new chain after r refs h o same head count =
    let kept = list_kept owns owns' old new chain (r ∷ refs) o (λ k d b. same _) h in
    let next : after.head ≡ (new r).next = head ∙ ap (λ (row : Row). row.next) (sym (same r)) in
    let P : Option RefParts → Type 0 = λ t. Leads new t refs in (
      record {
        leads = subst P (sym next) kept.leads.1;
        count = omega (arith, count, h.count);
        distinct = AllPairs-tail (λ a b. a.index ≢ b.index) r refs h.distinct;
        in_range = All-tail IsRef r refs h.in_range;
        owned = All-tail owns' r refs kept.owned;
      },
      All-head owns' r refs kept.owned,
      All-weaker (λ q. r.index ≢ q.index) (λ q. q.index ≢ r.index) (λ q n e. n (sym e)) refs (AllPairs-head (λ a b. a.index ≢ b.index) r refs h.distinct),
      All-head IsRef r refs h.in_range,
    )

-- what is left of a chain when its first record is taken off
pub record Popped (owns : RefParts → Type 0) (old new : RefParts → Row) (chain after : Chain) (r : RefParts) : Type 0 where
  pub refs : refs_of old chain ≡ r ∷ refs_of new after
  pub list : IsChain owns new after
  pub owned : owns r
  pub apart : IsApart r (refs_of new after)

pub popped_along : (owns owns' : RefParts → Type 0) (old new : RefParts → Row) (chain after : Chain) (r : RefParts) (refs : List RefParts) → refs_of old chain ≡ refs → IsList owns old chain refs → chain.head ≡ Some r → ((q : RefParts) → owns q → owns' q)
    → ((q : RefParts) → new q ≡ old q) → after.head ≡ (old r).next → after.count ≡ chain.count - 1 → Popped owns' old new chain after r
popped_along owns owns' old new chain after r [] e h first o same head count =
    let leads = h.leads in
    absurd cc
popped_along owns owns' old new chain after r (q ∷ refs) e h first o same head count =
    let leads = h.leads.0 in
    let same_first : q ≡ r = cc in
    let rest = list_popped owns owns' old new chain after r refs (subst (λ t. IsList owns old chain (t ∷ refs)) same_first h) o same head count in
    let records = refs_of-list owns' new after refs rest.0 in
    record {
      refs = e ∙ ap (λ t. t ∷ refs) same_first ∙ sym (ap (λ t. r ∷ t) records);
      list = chain_of_list owns' new after refs rest.0;
      owned = rest.1;
      apart = subst (λ t. IsApart r t) (sym records) rest.2;
    }

-- what pop leaves of a chain that isn't empty
pub chain_popped : (owns owns' : RefParts → Type 0) (old new : RefParts → Row) (chain after : Chain) (r : RefParts) → IsChain owns old chain → chain.head ≡ Some r → ((q : RefParts) → owns q → owns' q) → ((q : RefParts) → new q ≡ old q) → after.head ≡ (old r).next
    → after.count ≡ chain.count - 1 → Popped owns' old new chain after r
chain_popped owns owns' old new chain after r h first o same head count =
    popped_along owns owns' old new chain after r (refs_of old chain) refl h first o same head count

-- no records
pub chain_empty : (owns : RefParts → Type 0) (rows : RefParts → Row) (chain : Chain) → chain.head ≡ None → chain.count ≡ 0 → (refs_of rows chain ≡ []) × IsChain owns rows chain
chain_empty owns rows chain head count =
    let empty : IsList owns rows chain [] = record {
      leads = head;
      count = count;
      distinct = λ i j d h k. absurd (omega arith);
      in_range = All-nil IsRef;
      owned = All-nil owns;
    } in
    (refs_of-list owns rows chain [] empty, chain_of_list owns rows chain [] empty)
