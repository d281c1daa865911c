-- The free chain once the records that left limbo stand in front of it.
use Rattle.std.proofs.Common.{◌≡◌, ◌≢◌, ℕ, ◌+◌, List, ◌++◌, length, length-append, All, Bool, true, false, cond, eqb, ◌&&◌, sym, ap, ◌∙◌, subst, arith}
use Rattle.std.specs.List.{count_by}
use Rattle.std.proofs.lemmas.Bool.{ne_eqb}
use Rattle.std.proofs.lemmas.List.Elements.{All-append, All-weaker}
use Rattle.record_memory.specs.declared.books.Moves.{Moves}
use Rattle.record_memory.specs.declared.books.View.{View}
use Rattle.record_memory.specs.declared.books.Standing.{Standing}
use Rattle.record_memory.specs.declared.books.Standing.TheVariants.{Limbo, Free, Spent}
use Rattle.row_words.specs.Refs.{RefParts}
use Rattle.row_words.specs.declared.links.Chain.{Chain}
use Rattle.row_words.specs.declared.links.Freed.{Freed}
use Rattle.limbo_bags.specs.Chains.{IsChain}
use Rattle.record_rule.specs.Facts.{LimboRecord}
use Rattle.record_rule.specs.Standings.{is_spent}
use Rattle.record_rule.specs.ChainRows.{row_in, OwnsAway, IsStill}
use Rattle.reclaim_api.specs.Chained.{IsAs, IsChainOf, refs_in}
use Rattle.reclaim_api.specs.Frames.{LeavesRest, had, FreesInto}
use Rattle.reclaim_api.specs.Bags.{limbo_read, bag_count, LeftLimbo, FreedInFront}
use Rattle.reclaim_api.proofs.Kept.{as_stays}
use Rattle.reclaim_api.proofs.Leaving.{left_rest, left_stays, left_idle, left_spent, left_freed, left_count, goes_as, stays_as, records_left}
use Rattle.reclaim_api.proofs.Stills.{still_moves, still_rest, still_idle, still_had, still_left, still_as}
use Rattle.reclaim_api.proofs.StillChains.{chain_of}
use Rattle.reclaim_api.proofs.Bagged.{spent_whole}

-- the standing of one that can be handed out anew
free_standing : (generation : ℕ) → generation ≢ 1048575 → cond (eqb generation 1048575) Spent Free ≡ Free
free_standing generation other = ap (λ (b : Bool). cond b Spent Free) (ne_eqb generation 1048575 other)

module _ (may : LimboRecord → Bool) (v u w : View) (left : LeftLimbo may v u) (still : IsStill u w) where
  -- A record that left limbo is free, but for one at the last generation
  pub freed_as : (r : RefParts) → IsAs Limbo v r → may (limbo_read v r) ≡ true → r.generation ≢ 1048575 → IsAs Free w r
  freed_as r a passes other = still_as u w still Free r (subst (λ (s : Standing). IsAs s u r) (free_standing r.generation other) (goes_as may v u left r a passes))

  -- and one that was free is so still
  pub free_as : (r : RefParts) → IsAs Free v r → IsAs Free w r
  free_as r a = still_as u w still Free r (as_stays Free v u (records_left may v u left) (left_stays may v u left Free (λ e. cc)) r a)

  -- and one that didn't pass is in limbo still
  pub limbo_as : (r : RefParts) → IsAs Limbo v r → may (limbo_read v r) ≡ false → IsAs Limbo w r
  limbo_as r a fails = still_as u w still Limbo r (stays_as may v u left r a fails)

  -- so a chain of those is a bag still
  pub limbo_chain : (owns : RefParts → Type 0) (chain : Chain) → IsChain owns (row_in w) chain → All (λ r. IsAs Limbo v r × (may (limbo_read v r) ≡ false)) (refs_in w chain) → IsChainOf Limbo w chain
  limbo_chain owns chain h each = chain_of Limbo owns w chain h (All-weaker (λ r. IsAs Limbo v r × (may (limbo_read v r) ≡ false)) (IsAs Limbo w) (λ r x. limbo_as r x.0 x.1) (refs_in w chain) each)

  -- Of all other records the same is known
  pub freed_rest : LeavesRest v w
  freed_rest = let l = left_rest may v u left in let s = still_rest u w still in record {
    rest = λ i. s.rest i ∙ l.rest i;
    moves = ap (λ (m : Moves). record m { freed = v.own.moves.freed }) (still_moves u w still) ∙ l.moves;
    answered = s.answered ∙ l.answered;
    locks = s.locks ∙ l.locks;
    front = s.front ∙ l.front;
  }

  module _ (free after : Chain) (f : Freed) (frees : IsChainOf Free v free) (x : FreedInFront may v free f w after) where
    -- The free chain is one of free records
    pub free_after : IsChainOf Free w after
    free_after = chain_of Free (OwnsAway w) w after x.list (subst (All (IsAs Free w)) (sym x.refs) (All-append (IsAs Free w) x.moved (refs_in v free)
        (All-weaker (λ r. IsAs Limbo v r × (may (limbo_read v r) ≡ true) × (r.generation ≢ 1048575)) (IsAs Free w) (λ r y. freed_as r y.0 y.1 y.2) x.moved x.left)
        (All-weaker (IsAs Free v) (IsAs Free w) free_as (refs_in v free) frees.list.owned)))

    -- and has those that left and aren't spent
    pub frees_into : FreesInto v free f w after
    frees_into = record {
      idle = let a = still_idle u w still in let b = left_idle may v u left in let c = x.freed in let d = x.spent in omega arith;
      count = let a = x.list.count in let b = ap length x.refs in let c = length-append x.moved (refs_in v free) in let d = frees.list.count in let e = x.many in omega arith;
      freed = ap (λ (m : Moves). m.freed) (still_moves u w still) ∙ left_freed may v u left ∙ ap (λ (n : ℕ). v.own.moves.freed + n) (sym x.freed);
      spent = still_had u w still is_spent ∙ left_spent may v u left ∙ ap (λ (n : ℕ). had is_spent v.own + n) (sym x.spent);
      limbo = λ l. still_left u w still (left_count may v u left l);
    }

-- The same from a bag of which some were moved, where it has all that pass
pub moved_from : (may : LimboRecord → Bool) (v w : View) (bag free after : Chain) (f : Freed) (moved : List RefParts) → IsChainOf Limbo v bag → count_by (λ (r : RefParts). may (limbo_read v r)) (refs_in v bag) ≡ bag_count may v.own
    → refs_in w after ≡ moved ++ refs_in v free → IsChain (OwnsAway w) (row_in w) after → All (λ r. IsAs Limbo v r × (may (limbo_read v r) ≡ true) × (r.generation ≢ 1048575)) moved → length moved + f.spent ≡ f.freed
    → f.freed ≡ count_by (λ (r : RefParts). may (limbo_read v r)) (refs_in v bag) → f.spent ≡ count_by (λ (r : RefParts). may (limbo_read v r) && eqb r.generation 1048575) (refs_in v bag) → FreedInFront may v free f w after
moved_from may v w bag free after f moved h whole refs list left many freed spent = record {
  moved = moved;
  refs = refs;
  list = list;
  left = left;
  many = many;
  freed = freed ∙ whole;
  spent = spent ∙ spent_whole may v bag h whole;
}
