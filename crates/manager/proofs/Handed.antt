-- Handing a record out leaves the chains.
use Rattle.std.proofs.Common.{◌≡◌, ◌≢◌, ℕ, zero, suc, ◌+◌, ◌-◌, ◌<◌, ◌≤◌, List, get_or, sym, refl, ap, ◌∙◌, subst, arith, Bool, true, cond, Some, None}
use Rattle.std.proofs.lemmas.Bool.{ne_eqb}
use native.Mathlib.Decide.{ℕ_discrete}
use Rattle.record_memory.specs.declared.books.Setup.{Setup}
use Rattle.record_memory.specs.declared.books.View.{View}
use Rattle.record_memory.specs.declared.books.Share.{Share}
use Rattle.record_memory.specs.declared.books.Standing.{Standing}
use Rattle.record_memory.specs.declared.books.Standing.TheVariants.{Handing, Own, Spare, TakenOut, Limbo, Free, Spent}
use Rattle.row_words.specs.Refs.{RefParts}
use Rattle.record_rule.specs.Kinds.{stored_as, moves_stored, gave_birth}
use Rattle.record_rule.specs.HandingOut.{HasDrawn, handed_out, stores_from, fresh_row}
use Rattle.record_rule.proofs.HandingOut.{known_within, share_known, share_then, standing_then, standing_last}
use Rattle.reclaim_api.specs.Frames.{away_as}
use Rattle.reclaim_api.proofs.Kept.{Stays}
use Rattle.record_pieces.specs.Hands.{is_in_hand, in_hand}
use Rattle.record_pieces.proofs.Hands.{hand_same}
use Rattle.manager.proofs.MoveCounts.{AreSameMoves, same_moves, moves_then, stored_moves}
use Rattle.manager.proofs.OneShare.{AwayStays, others_stay, limbo_stays}

-- a record that was drawn still is
pub still_drawn : (v w : View) (r : RefParts) → w.setup ≡ v.setup → w.own.mine ≡ v.own.mine → HasDrawn v r → HasDrawn w r
still_drawn v w r setup mine d = record {
  within = subst (λ (k : Setup). r.index ≤ k.records) (sym setup) d.within;
  share = d.share;
  known = ap (λ m. get_or m (r.index - 1) None) mine ∙ d.known;
  fresh = d.fresh;
  generation = d.generation;
  eight = d.eight;
}

-- a record that isn't being handed out
abbrev pub IsThere : Standing → Type 0
IsThere (Handing n) = ⊥
IsThere Own = Unit {0}
IsThere Spare = Unit {0}
IsThere TakenOut = Unit {0}
IsThere Limbo = Unit {0}
IsThere Free = Unit {0}
IsThere Spent = Unit {0}

-- one that is, or was
abbrev IsBusy : Standing → Type 0
IsBusy (Handing n) = Unit {0}
IsBusy Own = Unit {0}
IsBusy Spare = ⊥
IsBusy TakenOut = ⊥
IsBusy Limbo = ⊥
IsBusy Free = ⊥
IsBusy Spent = ⊥

-- one that is differs from one that isn't
apart : (a b : Standing) (n : ℕ) → a ≡ Handing n → IsThere b → a ≢ b
apart a b n is there e = subst IsThere (sym e ∙ is) there

-- it isn't in limbo
no_limbo : (h : Share) (s : Standing) → IsBusy s → away_as h s ≡ None
no_limbo h (Handing n) b = refl
no_limbo h Own b = refl
no_limbo h Spare b = absurd b
no_limbo h TakenOut b = absurd b
no_limbo h Limbo b = absurd b
no_limbo h Free b = absurd b
no_limbo h Spent b = absurd b

-- it is in hand
busy_hand : (s : Standing) → IsBusy s → is_in_hand s ≡ true
busy_hand (Handing n) b = refl
busy_hand Own b = refl
busy_hand Spare b = absurd b
busy_hand TakenOut b = absurd b
busy_hand Limbo b = absurd b
busy_hand Free b = absurd b
busy_hand Spent b = absurd b

module _ (v : View) (r : RefParts) (birth : ℕ) (d : HasDrawn v r) where
  abbrev row : List ℕ
  row = fresh_row r.generation birth

  abbrev at : ℕ → View
  at n = stores_from v r.index row n

  abbrev share : ℕ → Share
  share n = share_then d.share row n

  -- from its draw to its last store it is so
  busy : (n : ℕ) → n < 9 → IsBusy (share n).standing
  busy n lt = by (ℕ_discrete n 8)
    where
      by : Dec (n ≡ 8) → IsBusy (share n).standing
      by (no ne) = subst IsBusy (sym (standing_then d.share row n d.fresh (omega arith))) tt
      by (yes last) = subst (λ k. IsBusy (share k).standing) (sym last) (subst IsBusy (sym (standing_last d.share row d.fresh)) tt)

  -- each store is one step
  more : (n : ℕ) → at (suc n) ≡ stored_as (at n) r.index n (get_or row n 0) (Some (share n))
  more n = ap (stored_as (at n) r.index n (get_or row n 0)) (share_known v r.index row d.share d.known n)

  -- what is in limbo stays at each
  limbo : (n : ℕ) → n < 9 → AwayStays v (at n)
  limbo zero lt j = refl
  limbo (suc n) lt j = limbo_stays (at n) (at (suc n)) r.index (share n) (share (suc n)) (share_known v r.index row d.share d.known n)
      (ap (λ (x : View). x.own.mine) (more n)) (no_limbo (share n) (share n).standing (busy n (omega arith))) (no_limbo (share (suc n)) (share (suc n)).standing (busy (suc n) (omega arith))) j
      ∙ limbo n (omega arith) j

  -- as many records are in hand at each
  hand : (n : ℕ) → n < 9 → in_hand (at n).own ≡ in_hand v.own
  hand zero lt = refl
  hand (suc n) lt = let known = share_known v r.index row d.share d.known n in
      hand_same (at n) (at (suc n)) r.index (Some (share n)) (Some (share (suc n))) known (ap (λ (x : View). x.own.mine) (more n)) (known_within (at n).own.mine (r.index - 1) (share n) known)
      (busy_hand (share (suc n)).standing (busy (suc n) (omega arith)) ∙ sym (busy_hand (share n).standing (busy n (omega arith)))) ∙ hand n (omega arith)

  -- no record is moved but so
  moved : (n : ℕ) → n < 9 → AreSameMoves v.own.moves (at n).own.moves
  moved zero lt = same_moves v.own.moves v.own.moves refl
  moved (suc n) lt = moves_then v.own.moves (at n).own.moves (at (suc n)).own.moves (moved n (omega arith)) (subst (AreSameMoves (at n).own.moves) (sym (ap (λ (x : View). x.own.moves) (more n))) (stored_moves (share n).standing (at n).own.moves))

  -- none becomes the caller's own before the last store, and this one with it
  births : (n : ℕ) → n < 8 → (at n).own.moves.births ≡ v.own.moves.births
  births zero lt = refl
  births (suc n) lt = ap (λ (x : View). x.own.moves.births) (more n) ∙ ap (λ (s : Standing). (moves_stored s (at n).own.moves).births) (standing_then d.share row n d.fresh (omega arith))
      ∙ ap (λ (b : Bool). (cond b (gave_birth (at n).own.moves) (at n).own.moves).births) (ne_eqb n 7 (λ e. omega arith)) ∙ births n (omega arith)

  one_birth : (at 8).own.moves.births ≡ v.own.moves.births + 1
  one_birth = ap (λ (x : View). x.own.moves.births) (more 7) ∙ ap (λ (s : Standing). (moves_stored s (at 7).own.moves).births) (standing_then d.share row 7 d.fresh (omega arith)) ∙ ap (λ (n : ℕ). n + 1) (births 7 (omega arith))

  -- and so do records that aren't being handed out
  stay : (standing : Standing) → IsThere standing → (n : ℕ) → n < 9 → Stays standing v (at n)
  stay standing there zero lt i h known is = known
  stay standing there (suc n) lt i h known is = others_stay (at n) (at (suc n)) r.index (share n) (share (suc n)) (share_known v r.index row d.share d.known n) (ap (λ (x : View). x.own.mine) (more n)) standing
      (apart (share n).standing standing n (standing_then d.share row n d.fresh (omega arith)) there) i h (stay standing there n (omega arith) i h known is) is

module _ (v w : View) (r : RefParts) (birth : ℕ) (d : HasDrawn v r) (step : w ≡ handed_out v r birth) where
  pub handed_limbo : AwayStays v w
  unfolding handed_out
  handed_limbo = subst (AwayStays v) (sym step) (limbo v r birth d 8 (omega arith))

  pub handed_hand : in_hand w.own ≡ in_hand v.own
  unfolding handed_out
  handed_hand = ap (λ (x : View). in_hand x.own) step ∙ hand v r birth d 8 (omega arith)

  pub handed_moves : AreSameMoves v.own.moves w.own.moves
  unfolding handed_out
  handed_moves = subst (λ (x : View). AreSameMoves v.own.moves x.own.moves) (sym step) (moved v r birth d 8 (omega arith))

  pub handed_births : w.own.moves.births ≡ v.own.moves.births + 1
  unfolding handed_out
  handed_births = ap (λ (x : View). x.own.moves.births) step ∙ one_birth v r birth d

  pub handed_stay : (standing : Standing) → IsThere standing → Stays standing v w
  unfolding handed_out
  handed_stay standing there = subst (Stays standing v) (sym step) (stay v r birth d standing there 8 (omega arith))
