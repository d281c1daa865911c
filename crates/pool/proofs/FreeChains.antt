-- A chain of 32 free records, as the rule says it and as a pool's contract does.
use Rattle.std.proofs.Common.{◌≡◌, List, [], ◌∷◌, length, Option, Some, None, sym, ◌∙◌, subst, arith}
use Rattle.std.proofs.lemmas.List.Elements.{All-weaker}
use Rattle.record_memory.specs.declared.books.Drawing.{Drawing}
use Rattle.record_memory.specs.declared.books.Standing.TheVariants.{Free}
use Rattle.record_memory.specs.declared.books.View.{View}
use Rattle.record_memory.specs.declared.steps.Step.{Step}
use Rattle.row_words.specs.Refs.{RefParts, IsRef}
use Rattle.row_words.specs.declared.links.Chain.{Chain}
use Rattle.limbo_bags.specs.Chains.{Leads, IsList}
use Rattle.limbo_bags.proofs.Chains.{refs_of-list, chain_of_list}
use Rattle.record_rule.specs.ChainRows.{row_in}
use Rattle.record_rule.specs.Shelving.{LeadsIn, IsSparable, HasFreeChain}
use Rattle.reclaim_api.specs.Chained.{IsAs, refs_in}
use Rattle.pool.specs.Calls.{IsFull}

leads_to : (v : View) (head : Option RefParts) (refs : List RefParts) → LeadsIn v head refs → Leads (row_in v) head refs
leads_to v head [] l = l
leads_to v head (r ∷ rs) l = (l.0, leads_to v (row_in v r).next rs l.1)

leads_from : (v : View) (head : Option RefParts) (refs : List RefParts) → Leads (row_in v) head refs → LeadsIn v head refs
leads_from v head [] l = l
leads_from v head (r ∷ rs) l = (l.0, leads_from v (row_in v r).next rs l.1)

-- the chain as a list
list_of : (v : View) (chain : Chain) (head : RefParts) (refs : List RefParts) → chain.head ≡ Some head → chain.count ≡ 32 → HasFreeChain v head refs → IsList (IsAs Free v) (row_in v) chain refs
list_of v chain head refs is count h = record {
  leads = subst (λ (z : Option RefParts). Leads (row_in v) z refs) (sym is) (leads_to v (Some head) refs h.leads);
  count = count ∙ sym h.many;
  distinct = h.distinct;
  in_range = All-weaker (IsSparable v) IsRef (λ r s. s.owns.is_ref) refs h.free;
  owned = All-weaker (IsSparable v) (IsAs Free v) (λ r s. record { owns = s.owns; standing_is = s.free; words = s.three }) refs h.free;
}

pub full_of : (v : View) (chain : Chain) (head : RefParts) (refs : List RefParts) → chain.head ≡ Some head → chain.count ≡ 32 → HasFreeChain v head refs → IsFull v chain × (refs_in v chain ≡ refs)
full_of v chain head refs is count h = let l = list_of v chain head refs is count h in (record { count = count; list = record { list = chain_of_list (IsAs Free v) (row_in v) chain refs l } }, refs_of-list (IsAs Free v) (row_in v) chain refs l)

-- and the other way
pub chain_of : (v : View) (chain : Chain) (head : RefParts) → chain.head ≡ Some head → IsFull v chain → HasFreeChain v head (refs_in v chain)
chain_of v chain head is full = let l = full.list.list in record {
  leads = subst (λ (z : Option RefParts). LeadsIn v z (refs_in v chain)) is (leads_from v chain.head (refs_in v chain) l.leads);
  many = sym l.count ∙ full.count;
  distinct = l.distinct;
  free = All-weaker (IsAs Free v) (IsSparable v) (λ r s. record { owns = s.owns; free = s.standing_is; three = s.words }) (refs_in v chain) l.owned;
}

-- it has a first record
pub some_head : (v : View) (chain : Chain) → chain.head ≡ None → IsFull v chain → ⊥
some_head v chain is full = let l = full.list.list in by (refs_in v chain) (subst (λ (z : Option RefParts). Leads (row_in v) z (refs_in v chain)) is l.leads) (sym l.count ∙ full.count)
  where
    by : (refs : List RefParts) → Leads (row_in v) None refs → length refs ≡ 32 → ⊥
    by [] l many = omega arith
    by (r ∷ rs) l many = let no : None ≡ Some r = l.0 in let none : ⊥ = cc in none

-- what a caller knows of records doesn't hang on its steps
module _ (v : View) (steps : List Step) (drawing : Drawing) where
  abbrev w : View
  w = record v { own = record v.own { steps = steps; drawing = drawing } }

  leads_still : (head : Option RefParts) (refs : List RefParts) → LeadsIn v head refs → LeadsIn w head refs
  leads_still head [] l = l
  leads_still head (r ∷ rs) l = (l.0, leads_still (row_in v r).next rs l.1)

  pub chain_still : (head : RefParts) (refs : List RefParts) → HasFreeChain v head refs → HasFreeChain w head refs
  chain_still head refs h = record {
    leads = leads_still (Some head) refs h.leads;
    many = h.many;
    distinct = h.distinct;
    free = All-weaker (IsSparable v) (IsSparable w)
        (λ r s. record { owns = record { is_ref = s.owns.is_ref; within = s.owns.within; share = s.owns.share; known = s.owns.known; chained = s.owns.chained; generation = s.owns.generation; long = s.owns.long }; free = s.free; three = s.three }) refs h.free;
  }

  leads_was : (head : Option RefParts) (refs : List RefParts) → LeadsIn w head refs → LeadsIn v head refs
  leads_was head [] l = l
  leads_was head (r ∷ rs) l = (l.0, leads_was (row_in v r).next rs l.1)

  pub chain_was : (head : RefParts) (refs : List RefParts) → HasFreeChain w head refs → HasFreeChain v head refs
  chain_was head refs h = record {
    leads = leads_was (Some head) refs h.leads;
    many = h.many;
    distinct = h.distinct;
    free = All-weaker (IsSparable w) (IsSparable v)
        (λ r s. record { owns = record { is_ref = s.owns.is_ref; within = s.owns.within; share = s.owns.share; known = s.owns.known; chained = s.owns.chained; generation = s.owns.generation; long = s.owns.long }; free = s.free; three = s.three }) refs h.free;
  }
