-- A chain of free records goes to the pool.
use Rattle.std.proofs.Common.{◌≡◌, ℕ, ◌+◌, ◌-◌, List, All, get_or, sym, ap, ◌∙◌, subst, ◌≤◌}
use Rattle.record_memory.specs.declared.books.View.{View}
use Rattle.record_memory.specs.declared.books.Standing.TheVariants.{Free}
use Rattle.record_memory.specs.declared.steps.Step.{Step}
use Rattle.row_words.specs.Refs.{RefParts}
use Rattle.row_words.specs.declared.links.Chain.{Chain}
use Rattle.limbo_bags.specs.Wholes.{AreApart}
use Rattle.limbo_bags.proofs.Chains.{chain_kept}
use Rattle.record_rule.specs.Kinds.{share_in, idle}
use Rattle.record_rule.specs.ChainRows.{row_in, row_of_share}
use Rattle.record_rule.specs.Makes.{Makes}
use Rattle.record_rule.proofs.TakesFree.{read_with}
use Rattle.reclaim_api.specs.Chained.{IsAs, IsChainOf, refs_in}
use Rattle.reclaim_api.specs.Frames.{rest_as, in_rest}
use Rattle.pool.specs.Calls.{IsFull, Gains, Loses}
use Rattle.manager.specs.Giving.{GivesFree}
use Rattle.manager.proofs.Gaining.{gained_like, gained_limbo, gained_idle}

module _ (v w : View) (chain : Chain) (full : IsFull v chain) (loses : Loses v w (refs_in v chain)) where
  -- the other way round the chain comes
  back : Gains w v (refs_in v chain)
  back = record { had = loses.gone; others = λ i apart. sym (loses.others i apart); more = sym loses.less }

  -- so all other records stay
  pub gives_lost : (steps : List Step) → Makes v w steps → w.own.moves ≡ v.own.moves → GivesFree v w
  gives_lost steps made moves = record {
    steps = steps;
    made = made;
    moves = moves;
    rest = λ i. sym (gained_like w v chain full back in_rest (λ h free. ap (rest_as h) free) (i - 1));
    away = λ i. sym (gained_limbo w v chain full back i);
  }

  -- and as many fewer are idle
  pub lost_idle : idle v.own ≡ idle w.own + chain.count
  lost_idle = gained_idle w v chain full back

  -- a free record that isn't in the chain is free, and so is a chain of such records
  abbrev StaysFree : RefParts → Type 0
  StaysFree q = IsAs Free v q × (share_in w q.index ≡ share_in v q.index)

  pub lost_chain : (other : Chain) → w.setup.records ≡ v.setup.records → IsChainOf Free v other → AreApart (refs_in v chain) (refs_in v other) → IsChainOf Free w other
  lost_chain other records list apart = record {
    list = (chain_kept StaysFree (IsAs Free w) (row_in v) (row_in w) other as_free (λ k d b. row_free _ (both k d b)) record { leads = list.list.leads; count = list.list.count; distinct = list.list.distinct; in_range = list.list.in_range; owned = both }).list;
  }
    where
      both : All StaysFree (refs_in v other)
      both k d b = (list.list.owned k d b, loses.others (get_or (refs_in v other) k d).index (λ i e c same. apart i e c k d b (sym same)))

      as_free : (q : RefParts) → StaysFree q → IsAs Free w q
      as_free q h = record {
        owns = record {
          is_ref = h.0.owns.is_ref;
          within = subst (λ (n : ℕ). q.index ≤ n) (sym records) h.0.owns.within;
          share = h.0.owns.share;
          known = h.1 ∙ h.0.owns.known;
          chained = h.0.owns.chained;
          generation = h.0.owns.generation;
          long = h.0.owns.long;
        };
        standing_is = h.0.standing_is;
        words = h.0.words;
      }

      row_free : (q : RefParts) → StaysFree q → row_in w q ≡ row_in v q
      row_free q h = let p = h.0.owns.is_ref.index.0 in ap row_of_share (read_with w q.index p ∙ h.1 ∙ sym (read_with v q.index p))
