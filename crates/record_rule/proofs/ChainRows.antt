-- Loads and stores of the first words of rows leave all but chain words.
use Rattle.std.proofs.Common.{◌≡◌, ◌≢◌, ℕ, ◌+◌, ◌-◌, ◌<◌, ◌≤◌, List, [], ◌∷◌, ◌++◌, map, length, get_or, set, length-set, All, cond, inl, inr, sym, refl, ap, ◌∙◌, subst, arith, Option, Some, None, get_or-set_same, get_or-set_other}
use Rattle.std.specs.List.{count_by}
use Rattle.std.proofs.lemmas.List.{append-nil, append_assoc, set-set}
use Rattle.std.proofs.lemmas.List.Sums.{sum_by-cons}
use Rattle.std.proofs.lemmas.List.Elements.{All-nil, All-push, All-append}
use Rattle.std.proofs.Math.Seq.{map-set_same}
use native.Mathlib.Decide.{ℕ_discrete}
use Rattle.record_memory.specs.declared.steps.Step.{Step}
use Rattle.record_memory.specs.declared.books.View.{View}
use Rattle.record_memory.specs.declared.books.Share.{Share}
use Rattle.record_memory.specs.declared.books.Standing.{Standing}
use Rattle.record_memory.specs.declared.books.Standing.TheVariants.{Handing, Own, Spare, TakenOut, Limbo, Free, Spent}
use Rattle.row_words.specs.Refs.{RefParts}
use Rattle.row_words.specs.Packing.{link_in}
use Rattle.record_memory.specs.declared.books.Moves.{Moves}
use Rattle.record_rule.specs.Kinds.{moves_stored, loaded, stored, stored_as, share_in, share_after, standing_after, field_store, field_load, is_idle, idle}
use Rattle.record_rule.specs.ChainRows.{IsChained, OwnsChain, IsAway, OwnsAway, unchained_as, unchained, quiet, IsRowStep, IsStill}
use Rattle.record_rule.proofs.HandingOut.{known_within}

-- a store leaves the standing of a record in a chain
same_standing : (q : Standing) → IsChained q → standing_after q ≡ q
same_standing (Handing n) h = absurd h
same_standing TakenOut h = absurd h
same_standing q h = refl

-- and moves no record
same_moves : (q : Standing) → IsChained q → (m : Moves) → moves_stored q m ≡ m
same_moves (Handing n) h m = absurd h
same_moves q h m = refl

-- chain words don't matter to how many records are idle
idle_as : (o : Option Share) → is_idle (unchained o) ≡ is_idle o
idle_as None = refl
idle_as (Some h) = by h.standing
  where
    by : (q : Standing) → is_idle (Some (unchained_as h q)) ≡ is_idle (Some h)
    by Limbo = refl
    by Free = refl
    by Spent = refl
    by q = refl

-- of a record that was retired all but the chain word
forgets : (h : Share) (q : Standing) → IsAway q → unchained_as h q ≡ record h { words = set h.words 1 0 }
forgets h (Handing n) a = absurd a
forgets h Own a = absurd a
forgets h Spare a = absurd a
forgets h TakenOut a = absurd a
forgets h q a = refl

-- in a list of shares
count_unchained : (l : List (Option Share)) → count_by is_idle (map unchained l) ≡ count_by is_idle l
count_unchained [] = refl
count_unchained (o ∷ os) = sum_by-cons (λ x. cond (is_idle x) 1 0) (unchained o) (map unchained os) ∙ (λ k. cond (idle_as o k) 1 0 + count_unchained os k) ∙ sym (sum_by-cons (λ x. cond (is_idle x) 1 0) o os)

-- in a view
idle_quiet : (v : View) → idle v.own ≡ count_by is_idle (quiet v).own.mine
unfolding idle
idle_quiet v = sym (count_unchained v.own.mine)

-- so two views that are one but for steps and chain words have as many
pub same_idle : (v w : View) → quiet w ≡ quiet v → idle w.own ≡ idle v.own
same_idle v w e = idle_quiet w ∙ ap (λ (x : View). count_by is_idle x.own.mine) e ∙ sym (idle_quiet v)

-- no step is made
pub still_start : (v : View) → IsStill v v
still_start v = record { rest = refl; made = []; steps = sym (append-nil v.own.steps); each = All-nil (IsRowStep (idle v.own)) }

-- one piece of steps after another
pub still_then : (u v w : View) → IsStill u v → IsStill v w → IsStill u w
still_then u v w a b = record {
  rest = b.rest ∙ a.rest;
  made = a.made ++ b.made;
  steps = b.steps ∙ ap (λ l. l ++ b.made) a.steps ∙ append_assoc u.own.steps a.made b.made;
  each = All-append (IsRowStep (idle u.own)) a.made b.made a.each (subst (λ n. All (IsRowStep n) b.made) (same_idle u v a.rest) b.each);
}

-- one such step
one_step : (n : ℕ) (t : Step) → IsRowStep n t → All (IsRowStep n) (t ∷ [])
one_step n t h = All-push (IsRowStep n) [] t (All-nil (IsRowStep n)) h

-- a load
module _ (v w : View) (i f n : ℕ) (is : w ≡ loaded v i f n) where
  -- it changes no more than the steps
  pub still_load : f < 3 → IsStill v w
  still_load lt = subst (IsStill v) (sym is) record {
    rest = refl;
    made = field_load v i f n ∷ [];
    steps = refl;
    each = one_step (idle v.own) (field_load v i f n) record { index = i; field = f; word = refl; first_three = lt; kind = inl (refl, refl); held = refl; idle = refl };
  }

  -- and what the caller has stays its own
  pub owns_loaded : (q : RefParts) → OwnsAway v q → OwnsAway w q
  owns_loaded q p = subst (λ (x : View). OwnsAway x q) (sym is) record {
    owns = record { is_ref = p.owns.is_ref; within = p.owns.within; share = p.owns.share; known = p.owns.known; chained = p.owns.chained; generation = p.owns.generation; long = p.owns.long };
    away = p.away;
  }

-- a store of a chain word
module _ (v w : View) (r : RefParts) (value : ℕ) (next : Option RefParts) (is : w ≡ stored v r.index 1 value) (leads : (link_in value).target ≡ next) (a : OwnsAway v r) where
  abbrev o : OwnsChain v r
  o = a.owns

  -- the index of the record, and what is known of it afterwards
  abbrev i : ℕ
  i = r.index

  abbrev after : Share
  after = share_after o.share 1 value

  -- the view afterwards
  abbrev then : View
  then = stored_as v i 1 value (Some o.share)

  -- which is the given one
  then_is : w ≡ then
  then_is = is ∙ ap (stored_as v i 1 value) o.known

  -- the share is within the list
  inside : i - 1 < length v.own.mine
  inside = known_within v.own.mine (i - 1) o.share o.known

  -- what is then known of the record
  here : share_in w i ≡ Some after
  here = ap (λ (x : View). share_in x i) then_is ∙ get_or-set_same v.own.mine (i - 1) (Some after) None inside

  -- of each other record the same is known
  there : (j : ℕ) → 0 < j → j ≢ i → share_in w j ≡ share_in v j
  there j p ne = ap (λ (x : View). share_in x j) then_is ∙ get_or-set_other v.own.mine (i - 1) (j - 1) (Some after) None (λ e. ne (omega arith))

  -- the standing stays
  same_after : after.standing ≡ o.share.standing
  same_after = same_standing o.share.standing o.chained

  -- what the caller has stays its own, this record or another
  owns_at : (q : RefParts) → OwnsAway v q → Dec (q.index ≡ i) → OwnsAway w q
  owns_at q p (yes e) = let same : p.owns.share ≡ o.share = some_same p.owns.share o.share (sym p.owns.known ∙ ap (share_in v) e ∙ o.known) in record {
    owns = record {
      is_ref = p.owns.is_ref;
      within = subst (λ (x : View). q.index ≤ x.setup.records) (sym then_is) p.owns.within;
      share = after;
      known = ap (share_in w) e ∙ here;
      chained = subst IsChained (sym same_after) o.chained;
      generation = sym (ap (λ (x : Share). x.generation) same) ∙ p.owns.generation;
      long = let l = length-set o.share.words 1 value in let m = o.long in omega arith;
    };
    away = subst IsAway (sym same_after) a.away;
  }
    where
      some_same : (a b : Share) → Some a ≡ Some b → a ≡ b
      some_same a b e = cc
  owns_at q p (no ne) = record {
    owns = record {
      is_ref = p.owns.is_ref;
      within = subst (λ (x : View). q.index ≤ x.setup.records) (sym then_is) p.owns.within;
      share = p.owns.share;
      known = there q.index p.owns.is_ref.index.0 ne ∙ p.owns.known;
      chained = p.owns.chained;
      generation = p.owns.generation;
      long = p.owns.long;
    };
    away = p.away;
  }

  -- so all of it stays its own
  pub owns_stored : (q : RefParts) → OwnsAway v q → OwnsAway w q
  owns_stored q p = owns_at q p (ℕ_discrete q.index i)

  -- but for its chain word the same is known of the record
  unseen : unchained (Some after) ≡ unchained (get_or v.own.mine (i - 1) None)
  unseen = (λ k. Some (forgets after after.standing (subst IsAway (sym same_after) a.away) k))
      ∙ (λ k. Some (record { standing = same_after k; generation = o.share.generation; taken_number = o.share.taken_number; words = set-set o.share.words 1 value 0 k }))
      ∙ (λ k. Some (sym (forgets o.share o.share.standing a.away) k)) ∙ sym (ap unchained o.known)

  -- so nothing but steps and such chain words changed
  pub still_store : IsStill v w
  still_store = subst (IsStill v) (sym then_is) record {
    rest = λ k. record (quiet v) { own = record (quiet v).own { mine = map-set_same unchained v.own.mine (i - 1) (Some after) None unseen k; moves = same_moves o.share.standing o.chained v.own.moves k } };
    made = field_store v i 1 value o.share ∷ [];
    steps = refl;
    each = one_step (idle v.own) (field_store v i 1 value o.share) record { index = i; field = 1; word = refl; first_three = omega arith; kind = inr (refl, refl); held = refl; idle = refl };
  }
