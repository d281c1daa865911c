-- A chain of free records comes from the pool.
use Rattle.std.proofs.Common.{◌≡◌, ◌≢◌, ◌⊎◌, inl, inr, ℕ, ◌+◌, ◌-◌, List, [], ◌∷◌, All, get_or, sym, refl, ap, ◌∙◌, arith, Option, Some, None}
use native.Mathlib.Decide.{ℕ_discrete}
use Rattle.std.proofs.lemmas.List.Elements.{All-nil, All-cons, All-head, All-tail}
use Rattle.record_memory.specs.declared.books.View.{View}
use Rattle.record_memory.specs.declared.books.Share.{Share}
use Rattle.record_memory.specs.declared.books.Standing.{Standing}
use Rattle.record_memory.specs.declared.books.Standing.TheVariants.{Free}
use Rattle.row_words.specs.Refs.{RefParts}
use Rattle.row_words.specs.declared.links.Chain.{Chain}
use Rattle.record_rule.specs.Kinds.{share_in, idle}
use Rattle.reclaim_api.specs.Chained.{IsAs, refs_in}
use Rattle.reclaim_api.specs.Frames.{away_as, in_away, is_as}
use Rattle.reclaim_api.proofs.Kept.{Stays}
use Rattle.record_pieces.specs.Hands.{is_in_hand, in_hand}
use Rattle.record_pieces.proofs.Hands.{count_like}
use Rattle.pool.specs.Calls.{IsFull, Gains}
use Rattle.manager.proofs.OneShare.{AwayStays}

-- a record is in a list, or apart from it
is_in : (P : RefParts → Type 0) (i : ℕ) (refs : List RefParts) → All P refs → All (λ (r : RefParts). r.index ≢ i) refs ⊎ ((r : RefParts) × P r × (r.index ≡ i))
is_in P i [] all = inl (All-nil (λ (r : RefParts). r.index ≢ i))
is_in P i (x ∷ xs) all = by (ℕ_discrete x.index i) (is_in P i xs (All-tail P x xs all))
  where
    by : Dec (x.index ≡ i) → All (λ (r : RefParts). r.index ≢ i) xs ⊎ ((r : RefParts) × P r × (r.index ≡ i)) → All (λ (r : RefParts). r.index ≢ i) (x ∷ xs) ⊎ ((r : RefParts) × P r × (r.index ≡ i))
    by (yes e) rest = inr (x, All-head P x xs all, e)
    by (no ne) (inl apart) = inl (All-cons (λ (r : RefParts). r.index ≢ i) x xs ne apart)
    by (no ne) (inr found) = inr found

-- a chain came
module _ (v w : View) (chain : Chain) (full : IsFull w chain) (gains : Gains v w (refs_in w chain)) where
  -- all that the caller had stay
  pub gained_stays : (standing : Standing) → Stays standing v w
  gained_stays standing i h known is = by (is_in (λ r. share_in v r.index ≡ None) i (refs_in w chain) gains.had)
    where
      by : All (λ (r : RefParts). r.index ≢ i) (refs_in w chain) ⊎ ((r : RefParts) × (share_in v r.index ≡ None) × (r.index ≡ i)) → share_in w i ≡ Some h
      by (inl apart) = gains.others i apart ∙ known
      by (inr found) = let no : Some h ≡ None = sym known ∙ ap (share_in v) (sym found.2) ∙ found.1 in let bad : ⊥ = cc in absurd bad

  -- each of the chain is free now, and wasn't the caller's
  both : All (λ r. (share_in v r.index ≡ None) × IsAs Free w r) (refs_in w chain)
  both k d b = (gains.had k d b, full.list.list.owned k d b)

  -- what sees no free record sees the same
  pub gained_like : {A : Type 0} (see : Option Share → A) → ((h : Share) → h.standing ≡ Free → see (Some h) ≡ see None) → (j : ℕ) → see (get_or w.own.mine j None) ≡ see (get_or v.own.mine j None)
  gained_like see blind j = by (is_in (λ r. (share_in v r.index ≡ None) × IsAs Free w r) (j + 1) (refs_in w chain) both)
    where
      place : j + 1 - 1 ≡ j
      place = omega arith

      at_v : share_in v (j + 1) ≡ get_or v.own.mine j None
      at_v = ap (λ k. get_or v.own.mine k None) place

      at_w : share_in w (j + 1) ≡ get_or w.own.mine j None
      at_w = ap (λ k. get_or w.own.mine k None) place

      by : All (λ (r : RefParts). r.index ≢ j + 1) (refs_in w chain) ⊎ ((r : RefParts) × ((share_in v r.index ≡ None) × IsAs Free w r) × (r.index ≡ j + 1)) → see (get_or w.own.mine j None) ≡ see (get_or v.own.mine j None)
      by (inl apart) = ap see (sym at_w ∙ gains.others (j + 1) apart ∙ at_v)
      by (inr found) = let free = found.1.1 in ap see (sym at_w ∙ ap (share_in w) (sym found.2) ∙ free.owns.known) ∙ blind free.owns.share free.standing_is ∙ ap see (sym found.1.0 ∙ ap (share_in v) found.2 ∙ at_v)

  -- so what is in limbo stays
  pub gained_limbo : AwayStays v w
  gained_limbo = gained_like in_away (λ h free. ap (away_as h) free)

  -- and as many are in hand
  pub gained_hand : in_hand w.own ≡ in_hand v.own
  gained_hand = count_like (is_as is_in_hand) refl w.own.mine v.own.mine (gained_like (is_as is_in_hand) (λ h free. ap is_in_hand free))

  -- as many more are idle
  pub gained_idle : idle w.own ≡ idle v.own + chain.count
  gained_idle = gains.more ∙ ap (λ (n : ℕ). idle v.own + n) (sym full.list.list.count)
