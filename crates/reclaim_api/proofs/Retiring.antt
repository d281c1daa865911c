-- A record is retired: it is in limbo, stands in no chain, and counts in the bags whose tests it passes.
use Rattle.std.proofs.Common.{◌≡◌, ◌≢◌, ℕ, ◌+◌, ◌-◌, get_or, length-set, get_or-set_same, get_or-set_other, Bool, cond, Some, None, sym, refl, ap, ◌∙◌, arith}
use Rattle.record_memory.specs.declared.books.View.{View}
use Rattle.record_memory.specs.declared.books.Share.{Share}
use Rattle.record_memory.specs.declared.books.Standing.{Standing}
use Rattle.record_memory.specs.declared.books.Standing.TheVariants.{TakenOut, Limbo}
use Rattle.row_words.specs.Refs.{RefParts, IsRef}
use Rattle.row_words.specs.Packing.{number_in}
use Rattle.row_words.specs.declared.links.Chain.{Chain}
use Rattle.limbo_bags.specs.Chains.{IsApart}
use Rattle.record_rule.specs.Facts.{LimboRecord}
use Rattle.record_rule.specs.Kinds.{share_in}
use Rattle.record_rule.specs.Links.{HasTaken, retired_share, retired_with}
use Rattle.record_rule.specs.ChainRows.{OwnsChain}
use Rattle.record_rule.proofs.HandingOut.{known_within}
use Rattle.reclaim_api.specs.Chained.{IsAs, IsChainOf, refs_in}
use Rattle.reclaim_api.specs.Bags.{limbo_read, bag_count}
use Rattle.reclaim_api.proofs.Leaving.{read_is}
use Rattle.reclaim_api.proofs.Bagged.{bag_retired}

module _ (v : View) (r : RefParts) (share : Share) (value : ℕ) (taken : HasTaken v r share) where
  abbrev then : View
  then = retired_with v r share value

  -- what the caller knows of it then
  pub retired_known : share_in then r.index ≡ Some (retired_share share value)
  retired_known = get_or-set_same v.own.mine (r.index - 1) (Some (retired_share share value)) None (known_within v.own.mine (r.index - 1) share taken.known)

  -- It stands in no chain
  pub retired_apart : (standing : Standing) (chain : Chain) → standing ≢ TakenOut → IsChainOf standing v chain → IsApart r (refs_in v chain)
  retired_apart standing chain other h k d lt same = let q = h.list.owned k d lt in
      other (sym q.standing_is ∙ ap (λ (x : Share). x.standing) (some_same q.owns.share share (sym q.owns.known ∙ ap (share_in v) same ∙ taken.known)) ∙ taken.standing)
    where
      some_same : (a b : Share) → Some a ≡ Some b → a ≡ b
      some_same a b e = cc

  module _ (in_range : IsRef r) where
    retired_owns : OwnsChain then r
    retired_owns = record {
      is_ref = in_range;
      within = taken.within;
      share = retired_share share value;
      known = retired_known;
      chained = tt;
      generation = taken.generation;
      long = let a = length-set share.words 2 value in let b = taken.three in omega arith;
    }

    -- it is in limbo
    pub retired_as : IsAs Limbo then r
    unfolding retired_owns
    retired_as = record { owns = retired_owns; standing_is = refl; words = length-set share.words 2 value ∙ taken.three }

    -- a test reads the birth that it had and the new stamp
    pub retired_read : limbo_read then r ≡ record { reference = r; birth = number_in (get_or share.words 0 0); stamp = number_in value }
    unfolding retired_owns
    retired_read = sym (read_is then r retired_owns) ∙ (λ k. record {
      reference = record { index = (let e : r.index - 1 + 1 ≡ r.index = let some = in_range.index.0 in omega arith in e) k; generation = taken.generation k };
      birth = number_in (get_or-set_other share.words 2 0 value 0 (λ e. omega arith) k);
      stamp = number_in (get_or-set_same share.words 2 value 0 (let b = taken.three in omega arith) k);
    })

    -- and it counts where it passes
    pub retired_bag : (t : LimboRecord → Bool) → bag_count t then.own ≡ bag_count t v.own + cond (t (limbo_read then r)) 1 0
    unfolding retired_owns
    retired_bag t = bag_retired t v r share value taken ∙ ap (λ (x : LimboRecord). bag_count t v.own + cond (t x) 1 0) (read_is then r retired_owns)
