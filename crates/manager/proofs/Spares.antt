-- An own record comes in front of the spare chain.
use Rattle.std.proofs.Common.{◌≡◌, ◌≢◌, ℕ, ◌+◌, ◌-◌, ◌^◌, ◌≤◌, List, [], ◌∷◌, length, get_or-set_same, set, length-set, sym, refl, ap, ◌∙◌, subst, arith, Option, Some, None}
use Rattle.std.proofs.lemmas.List.Elements.{All-weaker, All-cons, All-head}
use Rattle.std.proofs.lemmas.List.Kept.{AllPairs-cons}
use Rattle.record_memory.specs.declared.books.View.{View}
use Rattle.record_memory.specs.declared.books.Share.{Share}
use Rattle.record_memory.specs.declared.books.Standing.{Standing}
use Rattle.record_memory.specs.declared.books.Standing.TheVariants.{Own, Spare, Free}
use Rattle.row_words.specs.Refs.{RefParts, LinkParts, IsRef}
use Rattle.row_words.specs.Rows.{Row}
use Rattle.row_words.specs.Packing.{link_in, IsTarget}
use Rattle.row_words.specs.declared.links.Chain.{Chain}
use Rattle.row_words.proofs.Packed.{link_in-packed_link}
use Rattle.limbo_bags.specs.Chains.{IsApart, IsList, Leads}
use Rattle.limbo_bags.proofs.Chains.{list_kept, chain_of_list}
use Rattle.limbo_bags.proofs.Counts.{length-le_from_refs}
use Rattle.record_rule.specs.Kinds.{share_in, field_store}
use Rattle.record_rule.specs.ChainRows.{row_in, row_of_share}
use Rattle.record_rule.specs.Asides.{put_aside, put_aside_as, chain_word}
use Rattle.record_rule.specs.HandingOut.{HasOwn}
use Rattle.record_rule.specs.Makes.{Makes}
use Rattle.record_rule.proofs.Makes.{makes_one}
use Rattle.record_rule.proofs.HandingOut.{known_within}
use Rattle.record_pieces.specs.Hands.{is_in_hand, in_hand}
use Rattle.record_pieces.specs.Spares.{IsSpareIn, KeepsSpares}
use Rattle.record_pieces.proofs.Hands.{hand_less}
use Rattle.record_rule.proofs.TakesFree.{read_with}
use Rattle.reclaim_api.specs.Chained.{IsAs, IsChainOf, refs_in}
use Rattle.reclaim_api.specs.Frames.{away_as}
use Rattle.reclaim_api.proofs.Kept.{Stays, chain_stays, row_stays, as_stays}
use Rattle.manager.specs.Callers.{KeepsOwnBut}
use Rattle.manager.proofs.OneShare.{AwayStays, here, others_stay, limbo_stays}
use Rattle.manager.proofs.Owns.{owns_but}
use Rattle.manager.proofs.Stocks.{stays_kept}

-- the chain's first record, where it has one, is in range
head_in_range : (rows : RefParts → Row) (owns : RefParts → Type 0) (chain : Chain) (refs : List RefParts) → IsList owns rows chain refs → IsTarget chain.head
head_in_range rows owns chain [] h = subst IsTarget (sym h.leads) tt
head_in_range rows owns chain (x ∷ xs) h = subst IsTarget (sym h.leads.0) (All-head IsRef x xs h.in_range)

-- a chain of records that differ has room for one more
pub room_for : (v : View) (chain : Chain) → IsChainOf Spare v chain → chain.count ≤ 2 ^ 20
room_for v chain h = omega (arith, h.list.count, length-le_from_refs (refs_in v chain) h.list.distinct h.list.in_range)

-- an own record is put in front
module _ (v w : View) (chain after : Chain) (r : RefParts) (row : List ℕ) (list : IsChainOf Spare v chain) (own : HasOwn v r row) (is_ref : IsRef r) (step : w ≡ put_aside v r.index (chain_word r.generation chain.head)) (head : after.head ≡ Some r) (count : after.count ≡ chain.count + 1) where
  abbrev value : ℕ
  value = chain_word r.generation chain.head

  abbrev was : Share
  was = own.share

  abbrev is : Share
  is = record was { standing = Spare; words = set was.words 1 value }

  -- the view is what the store tells
  pushed_is : w ≡ put_aside_as v r.index value (Some was)
  pushed_is = step ∙ ap (put_aside_as v r.index value) own.known

  pushed_mine : w.own.mine ≡ set v.own.mine (r.index - 1) (Some is)
  pushed_mine = ap (λ (x : View). x.own.mine) pushed_is

  -- of nothing but this record it knows another thing
  pub pushed_makes : Makes v w (field_store v r.index 1 value was ∷ [])
  pushed_makes = makes_one v w (field_store v r.index 1 value was) _ _ pushed_is refl refl

  -- and none comes into limbo
  pub pushed_limbo : AwayStays v w
  pushed_limbo = limbo_stays v w r.index was is own.known pushed_mine (ap (away_as was) own.standing_is) refl

  -- one is in hand no more
  pub pushed_hand : in_hand w.own + 1 ≡ in_hand v.own
  pushed_hand = hand_less v w r.index (Some was) (Some is) own.known pushed_mine (known_within v.own.mine (r.index - 1) was own.known) (ap is_in_hand own.standing_is) refl

  -- no record was moved but so
  pub pushed_moves : w.own.moves ≡ v.own.moves
  pushed_moves = ap (λ (x : View). x.own.moves) pushed_is

  pushed_records : w.setup.records ≡ v.setup.records
  pushed_records = ap (λ (x : View). x.setup.records) pushed_is

  -- the free ones stay
  pub pushed_free : (free : Chain) → IsChainOf Free v free → IsChainOf Free w free
  pushed_free free h = chain_stays Free v w pushed_records (others_stay v w r.index was is own.known pushed_mine Free (λ e. (let two : Own ≡ Free = sym own.standing_is ∙ e in let none : ⊥ = cc in none))) free h

  spares_stay : Stays Spare v w
  spares_stay = others_stay v w r.index was is own.known pushed_mine Spare (λ e. (let two : Own ≡ Spare = sym own.standing_is ∙ e in let none : ⊥ = cc in none))

  -- as spare they are known in the book, and so is the record
  pub pushed_kept : KeepsSpares v.own w.own
  pushed_kept = stays_kept v w spares_stay

  pub pushed_spare : IsSpareIn w.own r
  pushed_spare = record { share = is; known = here v w r.index was is own.known pushed_mine; spare = refl; generation = own.generation }

  -- and so do the other own ones
  pub pushed_owns : KeepsOwnBut r.index v w
  pushed_owns = owns_but v w pushed_records r.index (Some is) pushed_mine

  -- it was none of them
  apart : IsApart r (refs_in v chain)
  apart = All-weaker (IsAs Spare v) (λ q. q.index ≢ r.index) (λ q h e. (let same : Some h.owns.share ≡ Some was = sym h.owns.known ∙ ap (share_in v) e ∙ own.known in
      let two : Spare ≡ Own = sym h.standing_is ∙ ap standing_in same ∙ own.standing_is in let none : ⊥ = cc in none)) (refs_in v chain) list.list.owned
    where
      standing_in : Option Share → Standing
      standing_in None = Own
      standing_in (Some x) = x.standing

  -- its chain word leads to the first of them
  next_is : (row_in w r).next ≡ chain.head
  next_is = ap (λ o. (row_of_share o).next) (read_with w r.index is_ref.index.0 ∙ here v w r.index was is own.known pushed_mine)
      ∙ ap (λ n. (link_in n).target) (get_or-set_same was.words 1 value 0 (let e = ap (λ (l : List ℕ). length l) own.row_is in let f = own.eight in omega arith))
      ∙ ap (λ (l : LinkParts). l.target) (link_in-packed_link r.generation (record { flags = 0; target = chain.head }) (record { flags = omega arith; target = head_in_range (row_in v) (IsAs Spare v) chain (refs_in v chain) list.list }))

  -- the record is spare
  first_now : IsAs Spare w r
  first_now = record {
    owns = record {
      is_ref = is_ref;
      within = subst (λ k. r.index ≤ k) (sym pushed_records) own.within;
      share = is;
      known = here v w r.index was is own.known pushed_mine;
      chained = tt;
      generation = own.generation;
      long = let l = length-set was.words 1 value in let e = ap (λ (l : List ℕ). length l) own.row_is in let f = own.eight in omega arith;
    };
    standing_is = refl;
    words = length-set was.words 1 value ∙ ap (λ (l : List ℕ). length l) own.row_is ∙ own.eight;
  }

  -- and so are those that were
  still : IsList (IsAs Spare w) (row_in w) chain (refs_in v chain)
  still = list_kept (IsAs Spare v) (IsAs Spare w) (row_in v) (row_in w) chain (refs_in v chain) (as_stays Spare v w pushed_records spares_stay)
      (All-weaker (IsAs Spare v) (λ q. row_in w q ≡ row_in v q) (row_stays Spare v w pushed_records spares_stay) (refs_in v chain) list.list.owned) list.list

  -- so the chain is a list of it and these
  pub pushed_list : IsChainOf Spare w after
  pushed_list = record {
    list = chain_of_list (IsAs Spare w) (row_in w) after (r ∷ refs_in v chain) (record {
      leads = (head, subst (λ o. Leads (row_in w) o (refs_in v chain)) (sym next_is) still.leads);
      count = omega (arith, count, still.count);
      distinct = AllPairs-cons (λ a b. a.index ≢ b.index) r (refs_in v chain) (All-weaker (λ q. q.index ≢ r.index) (λ q. r.index ≢ q.index) (λ q n e. n (sym e)) (refs_in v chain) apart) still.distinct;
      in_range = All-cons IsRef r (refs_in v chain) is_ref still.in_range;
      owned = All-cons (IsAs Spare w) r (refs_in v chain) first_now still.owned;
    });
  }
