-- Steps after which a caller knows of nothing but its own records another thing, one after another.
use Rattle.std.proofs.Common.{◌≡◌, ℕ, zero, suc, ◌-◌, ◌<◌, List, [], ◌∷◌, ◌++◌, append-nil, append_assoc, get_or, set, false, Option, Some, None, sym, refl, ap, ◌∙◌, subst, arith}
use Rattle.std.specs.List.{count_by}
use native.Mathlib.Decide.{ℕ_discrete}
use Rattle.record_memory.specs.declared.steps.Step.{Step}
use Rattle.record_memory.specs.declared.books.View.{View}
use Rattle.record_memory.specs.declared.books.Share.{Share}
use Rattle.record_memory.specs.declared.books.Moves.{Moves}
use Rattle.row_words.specs.Refs.{RefParts}
use Rattle.record_rule.specs.Kinds.{advanced_by, share_in, stored_as, field_store, is_idle_as, is_idle, idle}
use Rattle.record_rule.specs.HandingOut.{HasDrawn, stores_from, handed_out, fresh_row}
use Rattle.record_rule.specs.Makes.{Makes}
use Rattle.record_rule.proofs.Counts.{stored_drawn}
use Rattle.record_rule.proofs.Lists.{counts_same}
use Rattle.record_rule.proofs.HandingOut.{known_within, share_then, share_known, standing_then, standing_last}

-- no step
pub makes_start : (v : View) → Makes v v []
makes_start v = record { appended = sym (append-nil v.own.steps); rest = refl; retired = refl; freed = refl }

-- one step
pub makes_one : (v w : View) (t : Step) (mine : List (Option Share)) (moves : Moves) → w ≡ advanced_by v t mine moves → moves.retired ≡ v.own.moves.retired → moves.freed ≡ v.own.moves.freed → Makes v w (t ∷ [])
makes_one v w t mine moves e retired freed = subst (λ (x : View). Makes v x (t ∷ [])) (sym e) record { appended = refl; rest = refl; retired = retired; freed = freed }

-- some and then more
pub makes_then : (u v w : View) (s t : List Step) → Makes u v s → Makes v w t → Makes u w (s ++ t)
makes_then u v w s t a b = record {
  appended = b.appended ∙ ap (λ (l : List Step). l ++ t) a.appended ∙ append_assoc u.own.steps s t;
  rest = b.rest ∙ ap (λ (x : View). record x { own = record x.own { steps = w.own.steps; mine = w.own.mine; drawing = w.own.drawing; moves = w.own.moves } }) a.rest;
  retired = b.retired ∙ a.retired;
  freed = b.freed ∙ a.freed;
}

-- of as many records it is free or spare, where of none another thing is known
pub idle_mine : (v w : View) → w.own.mine ≡ v.own.mine → idle w.own ≡ idle v.own
unfolding idle
idle_mine v w e = ap (count_by is_idle) e

-- or where one changed that counts as before
pub idle_set : (v w : View) (i : ℕ) (old new : Share) → share_in v i ≡ Some old → w.own.mine ≡ set v.own.mine (i - 1) (Some new) → is_idle_as new.standing ≡ is_idle_as old.standing → idle w.own ≡ idle v.own
unfolding idle
idle_set v w i old new known mine same = ap (count_by is_idle) mine ∙ counts_same is_idle v.own.mine (i - 1) (Some new) None (known_within v.own.mine (i - 1) old known) (same ∙ sym (ap is_idle known))

-- a record is handed out: until it is, and once it is, it isn't idle
module _ (v : View) (r : RefParts) (birth : ℕ) (d : HasDrawn v r) where
  abbrev row : List ℕ
  row = fresh_row r.generation birth

  abbrev at : ℕ → View
  at n = stores_from v r.index row n

  abbrev share : ℕ → Share
  share n = share_then d.share row n

  not_idle : (n : ℕ) → n < 9 → is_idle_as (share n).standing ≡ false
  not_idle n lt = by (ℕ_discrete n 8)
    where
      by : Dec (n ≡ 8) → is_idle_as (share n).standing ≡ false
      by (no ne) = ap is_idle_as (standing_then d.share row n d.fresh (omega arith))
      by (yes last) = ap (λ (k : ℕ). is_idle_as (share k).standing) last ∙ ap is_idle_as (standing_last d.share row d.fresh)

  -- each store of its handing out is one step
  stored_one : (n : ℕ) → at (suc n) ≡ stored_as (at n) r.index n (get_or row n 0) (Some (share n))
  stored_one n = ap (stored_as (at n) r.index n (get_or row n 0)) (share_known v r.index row d.share d.known n)

  makes_from : (n : ℕ) → (steps : List Step) × Makes v (at n) steps
  makes_from zero = ([], makes_start v)
  makes_from (suc n) = let m = makes_from n in let t : Step = field_store (at n) r.index n (get_or row n 0) (share n) in
      (m.0 ++ t ∷ [], makes_then v (at n) (at (suc n)) m.0 (t ∷ []) m.1 (let s = stored_drawn (share n).standing (at n).own.moves in makes_one (at n) (at (suc n)) t _ _ (stored_one n) s.2 s.3))

  idle_from : (n : ℕ) → n < 9 → idle (at n).own ≡ idle v.own
  idle_from zero lt = refl
  idle_from (suc n) lt = idle_set (at n) (at (suc n)) r.index (share n) (share (suc n)) (share_known v r.index row d.share d.known n) (ap (λ (x : View). x.own.mine) (stored_one n)) (not_idle (suc n) lt ∙ sym (not_idle n (omega arith))) ∙ idle_from n (omega arith)

  -- the eight stores
  pub handed_makes : (steps : List Step) × Makes v (handed_out v r birth) steps
  unfolding handed_out
  handed_makes = makes_from 8

  pub handed_idle : idle (handed_out v r birth).own ≡ idle v.own
  unfolding handed_out
  handed_idle = idle_from 8 (omega arith)
