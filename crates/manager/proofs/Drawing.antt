-- A draw leaves the chains.
use Rattle.std.proofs.Common.{◌≡◌, ◌+◌, ◌-◌, ◌<◌, get_or, length, length-set, List, Some, None, Result, Ok, Err, sym, refl, ap, ◌∙◌, arith}
use Rattle.std.specs.List.{count_by}
use Rattle.std.specs.Prelude.{MatchResult}
use Rattle.record_memory.specs.declared.steps.Step.{Step}
use Rattle.record_memory.specs.declared.books.View.{View}
use Rattle.record_memory.specs.declared.books.Standing.{Standing}
use Rattle.row_words.specs.Refs.{RefParts}
use Rattle.record_rule.specs.Kinds.{drawn_share, is_idle, idle}
use Rattle.record_rule.specs.Makes.{Makes}
use Rattle.record_rule.proofs.Lists.{counts_same}
use Rattle.record_rule.proofs.Makes.{idle_mine}
use Rattle.record_rule.proofs.HandingOut.{known_within}
use Rattle.alloc_api.specs.Drawn.{IsNew, GetsOne, GetsNone}
use Rattle.reclaim_api.specs.Frames.{in_away}
use Rattle.reclaim_api.proofs.Kept.{Stays}
use Rattle.record_pieces.specs.Hands.{in_hand}
use Rattle.record_pieces.proofs.Hands.{hand_more}
use Rattle.manager.proofs.OneShare.{AwayStays, all_stay, limbo_new}
use Rattle.manager.proofs.Stay.{mine_stays}

-- a record came
module _ (v w : View) (r : RefParts) (new : IsNew v w r) (one : GetsOne v w r) where
  -- its place is in the list
  within : r.index - 1 < length v.own.mine
  within = let k = known_within w.own.mine (r.index - 1) (drawn_share v.setup.first) new.untouched in let e = ap (λ x. length x) one.mine ∙ length-set v.own.mine (r.index - 1) (Some (drawn_share v.setup.first)) in omega arith

  -- what is in limbo stays
  new_limbo : AwayStays v w
  new_limbo = limbo_new v w r.index (drawn_share v.setup.first) new.new one.mine within refl

  -- and as many are idle
  new_idle : idle w.own ≡ idle v.own
  unfolding idle
  new_idle = ap (count_by is_idle) one.mine ∙ counts_same is_idle v.own.mine (r.index - 1) (Some (drawn_share v.setup.first)) None within (sym (ap is_idle new.new))

  -- one more is in hand
  pub new_hand : in_hand w.own ≡ in_hand v.own + 1
  new_hand = hand_more v w r.index None (Some (drawn_share v.setup.first)) new.new one.mine within refl refl

module _ {E : Type 0} (v w : View) where
  -- what is in limbo stays
  pub draws_limbo : (o : Result RefParts E) → MatchResult o (λ r. IsNew v w r) (λ _. Unit {0}) → MatchResult o (λ r. GetsOne v w r) (λ _. GetsNone v w) → AwayStays v w
  draws_limbo (Ok r) new one = new_limbo v w r new one
  draws_limbo (Err e) new none = λ i. ap (λ l. in_away (get_or l i None)) none.mine

  -- and so does all that the caller had
  pub draws_stay : (o : Result RefParts E) → MatchResult o (λ r. IsNew v w r) (λ _. Unit {0}) → MatchResult o (λ r. GetsOne v w r) (λ _. GetsNone v w) → (standing : Standing) → Stays standing v w
  draws_stay (Ok r) new one standing = all_stay v w r.index (drawn_share v.setup.first) new.new one.mine standing
  draws_stay (Err e) new none standing = mine_stays standing v w none.mine

  -- as many are idle
  pub draws_idle : (o : Result RefParts E) → MatchResult o (λ r. IsNew v w r) (λ _. Unit {0}) → MatchResult o (λ r. GetsOne v w r) (λ _. GetsNone v w) → idle w.own ≡ idle v.own
  draws_idle (Ok r) new one = new_idle v w r new one
  draws_idle (Err e) new none = idle_mine v w none.mine

  -- and of nothing but its records another thing is known
  pub draws_makes : (o : Result RefParts E) → MatchResult o (λ r. GetsOne v w r) (λ _. GetsNone v w) → (steps : List Step) × Makes v w steps
  draws_makes (Ok r) one = (one.steps, one.made)
  draws_makes (Err e) none = (none.steps, none.made)
