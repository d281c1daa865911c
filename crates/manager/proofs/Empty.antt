-- An empty chain.
use Rattle.std.proofs.Common.{◌≡◌, ℕ, List, [], ◌∷◌, sym, refl, ◌∙◌, arith, Some, None}
use Rattle.std.proofs.lemmas.List.Elements.{All-nil}
use Rattle.record_memory.specs.declared.books.View.{View}
use Rattle.record_memory.specs.declared.books.Standing.{Standing}
use Rattle.row_words.specs.Refs.{RefParts, IsRef}
use Rattle.row_words.specs.declared.links.Chain.{Chain}
use Rattle.limbo_bags.specs.Chains.{IsList}
use Rattle.limbo_bags.proofs.Chains.{chain_of_list}
use Rattle.record_rule.specs.ChainRows.{row_in}
use Rattle.reclaim_api.specs.Chained.{IsAs, IsChainOf, refs_in}

pub empty_chain : (st : Standing) (v : View) (chain : Chain) → chain.head ≡ None → chain.count ≡ 0 → IsChainOf st v chain
empty_chain st v chain head count = record {
  list = chain_of_list (IsAs st v) (row_in v) chain [] (record {
    leads = head;
    count = count;
    distinct = λ i j d h k. absurd (omega (arith, k));
    in_range = All-nil IsRef;
    owned = All-nil (IsAs st v);
  });
}

-- and one that has no first record
pub none_in : (st : Standing) (v : View) (chain : Chain) → IsChainOf st v chain → chain.head ≡ None → chain.count ≡ 0
none_in st v chain h none = by chain.count refl (refs_in v chain) h.list
  where
    by : (n : ℕ) → chain.count ≡ n → (refs : List RefParts) → IsList (IsAs st v) (row_in v) chain refs → chain.count ≡ 0
    by n e [] list = list.count
    by n e (r ∷ rs) list = let two : None ≡ Some r = sym none ∙ list.leads.0 in let bad : ⊥ = cc in absurd bad
