-- Chains after steps on chain words alone.
use Rattle.std.proofs.Common.{◌≡◌, List, ◌∷◌, get_or, All, sym, subst}
use Rattle.std.proofs.lemmas.List.Elements.{All-weaker, All-cons, All-head, All-tail}
use Rattle.record_memory.specs.declared.books.View.{View}
use Rattle.record_memory.specs.declared.books.Standing.{Standing}
use Rattle.row_words.specs.Refs.{RefParts}
use Rattle.row_words.specs.Rows.{Row}
use Rattle.row_words.specs.declared.links.Chain.{Chain}
use Rattle.limbo_bags.specs.Chains.{refs_of, IsChain, IsKept}
use Rattle.record_rule.specs.ChainRows.{row_in, IsAway, OwnsAway, IsStill}
use Rattle.reclaim_api.specs.Chained.{IsAs, IsChainOf, refs_in}
use Rattle.reclaim_api.proofs.Stills.{still_as}

-- a chain is one with less asked of its records
pub chain_weaker : (owns owns' : RefParts → Type 0) (rows : RefParts → Row) (chain : Chain) → ((r : RefParts) → owns r → owns' r) → IsChain owns rows chain → IsChain owns' rows chain
chain_weaker owns owns' rows chain less h = record { leads = h.leads; count = h.count; distinct = h.distinct; in_range = h.in_range; owned = λ k d b. less (get_or (refs_of rows chain) k d) (h.owned k d b) }

-- a chain of records that the caller has so
pub chain_of : (standing : Standing) (owns : RefParts → Type 0) (v : View) (chain : Chain) → IsChain owns (row_in v) chain → All (IsAs standing v) (refs_in v chain) → IsChainOf standing v chain
chain_of standing owns v chain h each = record { list = record { leads = h.leads; count = h.count; distinct = h.distinct; in_range = h.in_range; owned = each } }

-- one of retired records whose chain words it owns
pub chain_away : (standing : Standing) (v : View) (chain : Chain) → IsAway standing → IsChainOf standing v chain → IsChain (OwnsAway v) (row_in v) chain
chain_away standing v chain away h = chain_weaker (IsAs standing v) (OwnsAway v) (row_in v) chain (λ r a. record { owns = a.owns; away = subst IsAway (sym a.standing_is) away }) h.list

module _ (standing : Standing) (owns : RefParts → Type 0) (v w : View) (still : IsStill v w) where
  each_still : (refs : List RefParts) → All (IsAs standing v) refs → All (IsAs standing w) refs
  each_still refs h = All-weaker (IsAs standing v) (IsAs standing w) (still_as v w still standing) refs h

  -- A chain that they kept is one of records that the caller has as before
  pub kept_chain : (chain : Chain) → IsChainOf standing v chain → IsKept owns (row_in v) (row_in w) chain → IsChainOf standing w chain
  kept_chain chain h kept = chain_of standing owns w chain kept.list (subst (All (IsAs standing w)) (sym kept.refs) (each_still (refs_in v chain) h.list.owned))

  -- so is one with such a record put in front
  pub pushed_chain : (chain after : Chain) (r : RefParts) → IsChainOf standing v chain → IsAs standing v r → IsChain owns (row_in w) after → refs_in w after ≡ r ∷ refs_in v chain → IsChainOf standing w after
  pushed_chain chain after r h a list refs = chain_of standing owns w after list (subst (All (IsAs standing w)) (sym refs) (each_still (r ∷ refs_in v chain) (All-cons (IsAs standing v) r (refs_in v chain) a h.list.owned)))

  -- and one with its first record taken off
  pub popped_chain : (chain after : Chain) (r : RefParts) → IsChainOf standing v chain → IsChain owns (row_in w) after → refs_in v chain ≡ r ∷ refs_in w after → IsChainOf standing w after × IsAs standing w r
  popped_chain chain after r h list refs = let all = subst (All (IsAs standing w)) refs (each_still (refs_in v chain) h.list.owned) in (chain_of standing owns w after list (All-tail (IsAs standing w) r (refs_in w after) all), All-head (IsAs standing w) r (refs_in w after) all)
