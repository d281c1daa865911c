-- The first record of a chain is taken: a spare one is own again, and a free one is to be handed out anew.
use Rattle.std.proofs.Common.{◌≡◌, ℕ, ◌+◌, ◌-◌, [], ◌∷◌, get_or, set, sym, refl, ap, ◌∙◌, Some}
use Rattle.record_memory.specs.declared.books.View.{View}
use Rattle.record_memory.specs.declared.books.Share.{Share}
use Rattle.record_memory.specs.declared.books.Standing.TheVariants.{Own, Spare, Free}
use Rattle.row_words.specs.Refs.{RefParts}
use Rattle.row_words.specs.declared.links.Chain.{Chain}
use Rattle.record_rule.specs.Kinds.{field_load}
use Rattle.record_rule.specs.ChainRows.{row_in}
use Rattle.record_rule.specs.Asides.{took_spare, took_spare_as, HasSpare}
use Rattle.record_rule.specs.TakesFree.{HasFree, renewed, TookFree}
use Rattle.record_rule.specs.Makes.{Makes}
use Rattle.record_rule.proofs.Makes.{makes_one}
use Rattle.record_rule.proofs.HandingOut.{known_within}
use Rattle.record_pieces.specs.Hands.{is_in_hand, in_hand}
use Rattle.record_pieces.specs.Spares.{IsSpareIn, KeepsSparesBut}
use Rattle.record_pieces.proofs.Hands.{hand_more}
use Rattle.reclaim_api.specs.Chained.{IsAs, IsChainOf}
use Rattle.reclaim_api.specs.Frames.{away_as}
use Rattle.reclaim_api.proofs.Kept.{chain_stays}
use Rattle.manager.proofs.OneShare.{AwayStays, there, others_stay, limbo_stays}
use Rattle.manager.specs.Callers.{KeepsOwn}
use Rattle.manager.proofs.MoveCounts.{AreSameMoves}
use Rattle.manager.proofs.Owns.{owns_stay}
use Rattle.manager.proofs.Pops.{first_as, popped_list}

-- a spare record
module _ (v w : View) (chain after : Chain) (r : RefParts) (list : IsChainOf Spare v chain) (head : chain.head ≡ Some r) where
  -- what is known of it
  abbrev pub spare_as : IsAs Spare v r
  spare_as = first_as Spare v w chain after r list head

  -- so it may be taken
  pub first_spare : HasSpare v r spare_as.owns.share.words
  first_spare = record {
    within = spare_as.owns.within;
    share = spare_as.owns.share;
    known = spare_as.owns.known;
    standing_is = spare_as.standing_is;
    generation = spare_as.owns.generation;
    row_is = refl;
    eight = spare_as.words;
  }

  module _ (n : ℕ) (step : w ≡ took_spare v r.index n) (next : after.head ≡ (row_in v r).next) (count : after.count ≡ chain.count - 1) where
    abbrev was : Share
    was = spare_as.owns.share

    abbrev is : Share
    is = record was { standing = Own }

    taken_is : w ≡ took_spare_as v r.index n (Some was)
    taken_is = step ∙ ap (took_spare_as v r.index n) spare_as.owns.known

    taken_mine : w.own.mine ≡ set v.own.mine (r.index - 1) (Some is)
    taken_mine = ap (λ (x : View). x.own.mine) taken_is

    pub taken_moves : AreSameMoves v.own.moves w.own.moves
    taken_moves = record { drawn = ap (λ (x : View). x.own.moves.drawn) taken_is; reused = ap (λ (x : View). x.own.moves.reused) taken_is; retired = ap (λ (x : View). x.own.moves.retired) taken_is; freed = ap (λ (x : View). x.own.moves.freed) taken_is }

    -- and one more became the caller's own
    pub taken_births : w.own.moves.births ≡ v.own.moves.births + 1
    taken_births = ap (λ (x : View). x.own.moves.births) taken_is

    records : w.setup.records ≡ v.setup.records
    records = ap (λ (x : View). x.setup.records) taken_is

    -- it was spare, and all others are still
    pub taken_was : IsSpareIn v.own r
    taken_was = record { share = was; known = spare_as.owns.known; spare = spare_as.standing_is; generation = spare_as.owns.generation }

    pub taken_kept : KeepsSparesBut r.index v.own w.own
    taken_kept q ne h = record { share = h.share; known = there v w r.index was is spare_as.owns.known taken_mine q.index ne ∙ h.known; spare = h.spare; generation = h.generation }

    -- of nothing but this record another thing is known
    pub taken_makes : Makes v w (field_load v r.index 1 n ∷ [])
    taken_makes = makes_one v w (field_load v r.index 1 n) _ _ taken_is refl refl

    -- what is in limbo stays
    pub taken_limbo : AwayStays v w
    taken_limbo = limbo_stays v w r.index was is spare_as.owns.known taken_mine (ap (away_as was) spare_as.standing_is) refl

    -- one more is in hand
    pub taken_hand : in_hand w.own ≡ in_hand v.own + 1
    taken_hand = hand_more v w r.index (Some was) (Some is) spare_as.owns.known taken_mine (known_within v.own.mine (r.index - 1) was spare_as.owns.known) (ap is_in_hand spare_as.standing_is) refl

    -- and so do the free ones
    pub taken_free : (free : Chain) → IsChainOf Free v free → IsChainOf Free w free
    taken_free free h = chain_stays Free v w records (others_stay v w r.index was is spare_as.owns.known taken_mine Free (λ e. (let two : Spare ≡ Free = sym spare_as.standing_is ∙ e in let none : ⊥ = cc in none))) free h

    -- and the own ones
    pub taken_owns : KeepsOwn v w
    taken_owns = owns_stay v w records (others_stay v w r.index was is spare_as.owns.known taken_mine Own (λ e. (let two : Spare ≡ Own = sym spare_as.standing_is ∙ e in let none : ⊥ = cc in none)))

    -- the spare ones are the others
    pub taken_rest : IsChainOf Spare w after
    taken_rest = popped_list Spare v w chain after r list head is taken_mine records next count

-- a free record
module _ (v w : View) (chain after : Chain) (r : RefParts) (list : IsChainOf Free v chain) (head : chain.head ≡ Some r) where
  -- what is known of it
  abbrev free_as : IsAs Free v r
  free_as = first_as Free v w chain after r list head

  -- so it may be taken
  pub first_free : HasFree v r
  first_free = record { within = free_as.owns.within; share = free_as.owns.share; known = free_as.owns.known; free = free_as.standing_is; generation = free_as.owns.generation }

  module _ (told : TookFree v r w) (next : after.head ≡ (row_in v r).next) (count : after.count ≡ chain.count - 1) where
    abbrev old : Share
    old = told.was.share

    abbrev new : Share
    new = renewed old told.row

    again_mine : w.own.mine ≡ set v.own.mine (r.index - 1) (Some new)
    again_mine = ap (λ (x : View). x.own.mine) told.view

    same_records : w.setup.records ≡ v.setup.records
    same_records = ap (λ (x : View). x.setup.records) told.view

    -- of nothing but this record another thing is known
    pub again_makes : Makes v w (field_load v r.index 1 (get_or told.row 1 0) ∷ [])
    again_makes = makes_one v w (field_load v r.index 1 (get_or told.row 1 0)) _ _ told.view refl refl

    -- what is in limbo stays
    pub again_away : AwayStays v w
    again_away = limbo_stays v w r.index old new told.was.known again_mine (ap (away_as old) told.was.free) refl

    -- one more is in hand
    pub again_hand : in_hand w.own ≡ in_hand v.own + 1
    again_hand = hand_more v w r.index (Some old) (Some new) told.was.known again_mine (known_within v.own.mine (r.index - 1) old told.was.known) (ap is_in_hand told.was.free) refl

    -- and so do the spare ones
    pub again_spare : (spare : Chain) → IsChainOf Spare v spare → IsChainOf Spare w spare
    again_spare spare h = chain_stays Spare v w same_records (others_stay v w r.index old new told.was.known again_mine Spare (λ e. (let two : Free ≡ Spare = sym told.was.free ∙ e in let none : ⊥ = cc in none))) spare h

    -- and the own ones
    pub again_owns : KeepsOwn v w
    again_owns = owns_stay v w same_records (others_stay v w r.index old new told.was.known again_mine Own (λ e. (let two : Free ≡ Own = sym told.was.free ∙ e in let none : ⊥ = cc in none)))

    -- the free ones are the others
    pub again_rest : IsChainOf Free w after
    again_rest = popped_list Free v w chain after r list head new again_mine same_records next count
