-- A chain loses its first record, which is in another place from then on.
use Rattle.std.proofs.Common.{None, ◌≡◌, ◌≢◌, ◌-◌, ◌<◌, ◌≤◌, List, [], ◌∷◌, All, set, sym, refl, ap, ◌∙◌, subst, arith, Some}
use Rattle.std.proofs.lemmas.List.Elements.{All-weaker, All-head}
use Rattle.record_memory.specs.declared.books.View.{View}
use Rattle.record_memory.specs.declared.books.Share.{Share}
use Rattle.record_memory.specs.declared.books.Standing.{Standing}
use Rattle.row_words.specs.Refs.{RefParts, IsRef}
use Rattle.row_words.specs.Rows.{Row}
use Rattle.row_words.specs.declared.links.Chain.{Chain}
use Rattle.limbo_bags.specs.Chains.{IsApart, IsList}
use Rattle.limbo_bags.proofs.Chains.{list_popped, list_kept, chain_of_list}
use Rattle.record_rule.specs.Kinds.{share_in}
use Rattle.record_rule.specs.ChainRows.{row_in, row_of_share}
use Rattle.record_rule.specs.Asides.{next_in}
use Rattle.reclaim_api.specs.Chained.{IsAs, IsChainOf, refs_in}
use Rattle.record_rule.proofs.TakesFree.{read_with}
use Rattle.manager.proofs.OneShare.{there}

-- a chain with a head has a first record
pub first_of : (owns : RefParts → Type 0) (rows : RefParts → Row) (chain : Chain) (r : RefParts) (refs : List RefParts) → IsList owns rows chain refs → chain.head ≡ Some r → (rs : List RefParts) × (refs ≡ r ∷ rs)
first_of owns rows chain r [] h e = let no : Some r ≡ None = sym e ∙ h.leads in let none : ⊥ = cc in absurd none
first_of owns rows chain r (x ∷ xs) h e = let same : x ≡ r = some_same x r (sym h.leads.0 ∙ e) in (xs, ap (λ (z : RefParts). z ∷ xs) same)
  where
    some_same : (a b : RefParts) → Some a ≡ Some b → a ≡ b
    some_same a b e = cc

module _ (st : Standing) (v w : View) (chain after : Chain) (r : RefParts) (list : IsChainOf st v chain) (head : chain.head ≡ Some r) where
  rest_of : (rs : List RefParts) × (refs_in v chain ≡ r ∷ rs)
  rest_of = first_of (IsAs st v) (row_in v) chain r (refs_in v chain) list.list head

  whole : IsList (IsAs st v) (row_in v) chain (r ∷ rest_of.0)
  whole = subst (IsList (IsAs st v) (row_in v) chain) rest_of.1 list.list

  pub first_as : IsAs st v r
  first_as = All-head (IsAs st v) r rest_of.0 whole.owned

  -- and what it leads to
  pub row_next : (row_in v r).next ≡ next_in first_as.owns.share.words
  row_next = ap (λ o. (row_of_share o).next) (read_with v r.index first_as.owns.is_ref.index.0 ∙ first_as.owns.known)

  pub pop_count : 0 < chain.count
  pop_count = omega (arith, whole.count)

  abbrev old : Share
  old = first_as.owns.share

  module _ (new : Share) (mine : w.own.mine ≡ set v.own.mine (r.index - 1) (Some new)) (records : w.setup.records ≡ v.setup.records) (next : after.head ≡ (row_in v r).next) (count : after.count ≡ chain.count - 1) where
    apart_stays : (q : RefParts) → q.index ≢ r.index → IsAs st v q → share_in w q.index ≡ share_in v q.index
    apart_stays q ne h = there v w r.index old new first_as.owns.known mine q.index (λ e. ne (let a = h.owns.is_ref.index.0 in let b = first_as.owns.is_ref.index.0 in omega arith))

    apart_as : (q : RefParts) → q.index ≢ r.index → IsAs st v q → IsAs st w q
    apart_as q ne h = record {
      owns = record { is_ref = h.owns.is_ref; within = subst (λ k. q.index ≤ k) (sym records) h.owns.within; share = h.owns.share; known = apart_stays q ne h ∙ h.owns.known; chained = h.owns.chained; generation = h.owns.generation; long = h.owns.long };
      standing_is = h.standing_is;
      words = h.words;
    }

    apart_row : (q : RefParts) → q.index ≢ r.index → IsAs st v q → row_in w q ≡ row_in v q
    apart_row q ne h = ap row_of_share (read_with w q.index h.owns.is_ref.index.0 ∙ apart_stays q ne h ∙ sym (read_with v q.index h.owns.is_ref.index.0))

    popped : IsList (IsAs st v) (row_in v) after rest_of.0 × IsAs st v r × IsApart r rest_of.0 × IsRef r
    popped = list_popped (IsAs st v) (IsAs st v) (row_in v) (row_in v) chain after r rest_of.0 whole (λ q x. x) (λ q. refl) next count

    both : All (λ q. (q.index ≢ r.index) × IsAs st v q) rest_of.0
    both k d b = (popped.2 k d b, popped.0.owned k d b)

    -- the list without it
    pub popped_list : IsChainOf st w after
    popped_list = record {
      list = chain_of_list (IsAs st w) (row_in w) after rest_of.0 (record {
        leads = (list_kept (λ q. Unit {0}) (λ q. Unit {0}) (row_in v) (row_in w) after rest_of.0 (λ q x. x) (All-weaker (λ q. (q.index ≢ r.index) × IsAs st v q) (λ q. row_in w q ≡ row_in v q) (λ q x. apart_row q x.0 x.1) rest_of.0 both)
            (record { leads = popped.0.leads; count = popped.0.count; distinct = popped.0.distinct; in_range = popped.0.in_range; owned = λ k d b. tt })).leads;
        count = popped.0.count;
        distinct = popped.0.distinct;
        in_range = popped.0.in_range;
        owned = All-weaker (λ q. (q.index ≢ r.index) × IsAs st v q) (IsAs st w) (λ q x. apart_as q x.0 x.1) rest_of.0 both;
      });
    }
