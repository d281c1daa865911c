-- A record is retired with a stamp, and comes in front of a bag.
use Rattle.std.proofs.Common.{◌≡◌, ℕ, ◌+◌, ◌-◌, List, [], ◌∷◌, ◌++◌, length, append_assoc, set, set-set, get_or, All, Bool, true, Option, Some, None, sym, refl, ap, ◌∙◌, subst, arith}
use Rattle.std.proofs.lemmas.List.Elements.{All-head}
use Rattle.record_memory.specs.declared.books.Moves.{Moves}
use Rattle.record_memory.specs.declared.books.View.{View}
use Rattle.record_memory.specs.declared.books.Share.{Share}
use Rattle.record_memory.specs.declared.books.Standing.TheVariants.{Limbo, Free}
use Rattle.row_words.specs.Refs.{RefParts, IsRef}
use Rattle.row_words.specs.Rows.{Row}
use Rattle.row_words.specs.Packing.{packed_number}
use Rattle.row_words.specs.declared.links.Chain.{Chain}
use Rattle.row_words.specs.declared.links.Freed.{Freed}
use Rattle.limbo_bags.specs.Chains.{Leads, IsApart, IsChain, IsKept}
use Rattle.record_rule.specs.Asides.{chain_word}
use Rattle.record_rule.specs.ChainRows.{row_in, IsAway, OwnsAway, IsStill}
use Rattle.record_rule.specs.Facts.{LimboRecord}
use Rattle.record_rule.specs.Kinds.{idle, stored, stored_as}
use Rattle.record_rule.specs.Links.{HasTaken, retired_share, retired}
use Rattle.record_rule.specs.Standings.{is_limbo, is_spent}
use Rattle.reclaim_api.specs.Bags.{limbo_read, bag_count}
use Rattle.reclaim_api.specs.Chained.{IsAs, IsChainOf, refs_in}
use Rattle.reclaim_api.specs.Frames.{in_rest, had, FreesInto, LeavesRest, LeavesRestBut}
use Rattle.reclaim_api.specs.StepForms.{IsNoneFreed, stamp_store, chain_store}
use Rattle.reclaim_api.specs.Putting.{IsHeadFor, bagged_share, HasKept}
use Rattle.reclaim_api.proofs.Kept.{Stays, as_stays, chain_stays, refs_stay, row_stays, retired_keeps, retired_leaves, retired_idle, retired_had, retired_limbo, retired_spent}
use Rattle.reclaim_api.proofs.Leaving.{read_is}
use Rattle.reclaim_api.proofs.Bagged.{bag_all}
use Rattle.reclaim_api.proofs.Retiring.{retired_known, retired_apart, retired_as}
use Rattle.reclaim_api.proofs.Stills.{still_moves, still_rest, still_idle, still_had, still_left, still_read}
use Rattle.reclaim_api.proofs.StillChains.{chain_away, chain_weaker, kept_chain, pushed_chain}

-- The head of a bag is the record before which another comes
pub head_for : (test : LimboRecord → Bool) (v : View) (bag : Chain) → IsChainOf Limbo v bag → All (λ (r : RefParts). test (limbo_read v r) ≡ true) (refs_in v bag) → bag.count ≡ bag_count test v.own → IsHeadFor test v.own bag.head
head_for test v bag h passes whole = by (refs_in v bag) bag.head h.list.leads h.list.count h.list.owned passes
  where
    by : (refs : List RefParts) (head : Option RefParts) → Leads (row_in v) head refs → bag.count ≡ length refs → All (IsAs Limbo v) refs → All (λ (r : RefParts). test (limbo_read v r) ≡ true) refs → IsHeadFor test v.own head
    by [] head leads count owned passes = subst (IsHeadFor test v.own) (sym leads) (sym whole ∙ count)
    by (q ∷ qs) head leads count owned passes = subst (IsHeadFor test v.own) (sym leads.0) (let a = All-head (IsAs Limbo v) q qs owned in
        (a.owns.share, a.owns.known, a.standing_is, a.owns.generation, ap test (read_is v q a.owns) ∙ All-head (λ (r : RefParts). test (limbo_read v r) ≡ true) q qs passes))

-- What is left by two calls, of which the first one freed nothing
module _ (v u w : View) where
  pub rest_then : (i : ℕ) → LeavesRestBut i v u → LeavesRest u w → LeavesRestBut i v w
  rest_then i a b = record {
    rest = λ j ne. subst (λ (k : ℕ). in_rest (get_or w.own.mine k None) ≡ in_rest (get_or u.own.mine k None)) (let e : j + 1 - 1 ≡ j = omega arith in e) (b.rest (j + 1)) ∙ a.rest j ne;
    gone = b.rest i ∙ a.gone;
    moves = over w.own.moves u.own.moves b.moves ∙ a.moves;
    answered = b.answered ∙ a.answered;
    locks = b.locks ∙ a.locks;
    front = b.front ∙ a.front;
  }
    where
      over : (m n : Moves) → record m { freed = n.freed } ≡ n → record m { freed = v.own.moves.freed } ≡ record n { freed = v.own.moves.freed }
      over m n e = ap (λ (x : Moves). record x { freed = v.own.moves.freed }) e

  pub frees_then : (free after : Chain) (f : Freed) → FreesInto v free (record { freed = 0; spent = 0 }) u free → FreesInto u free f w after → FreesInto v free f w after
  frees_then free after f a b = record {
    idle = let x = a.idle in let y = b.idle in omega arith;
    count = b.count;
    freed = let x = a.freed in let y = b.freed in omega arith;
    spent = let x = a.spent in let y = b.spent in omega arith;
    limbo = λ left. b.limbo (a.limbo left);
  }

-- The record was put in front of the bag through the rows, of which these facts were asked and told
pub record HasPut (bag : Chain) (u : View) (r : RefParts) (w : View) (P Q : Type 0) (after : Chain) : Type 0 where
  pub in_range : IsRef r
  pub was : P
  pub still : IsStill u w
  pub refs : refs_in w after ≡ r ∷ refs_in u bag
  pub list : IsChain (λ (q : RefParts). Q × OwnsAway w q) (row_in w) after
  pub kept : (other : Chain) → IsChain (λ (q : RefParts). P × OwnsAway u q) (row_in u) other → IsApart r (refs_in u other) → IsKept (λ (q : RefParts). Q × OwnsAway w q) (row_in u) (row_in w) other
  pub made : w ≡ stored u r.index 1 (chain_word r.generation bag.head)

-- and so it was of the view that retiring it left
pub put_then : (bag : Chain) (v u : View) (r t : RefParts) (share : Share) (stamp : ℕ) (w : View) (P Q : Type 0) (after : Chain) → r ≡ t → u ≡ retired v t share stamp → HasPut bag u r w P Q after → HasPut bag (retired v t share stamp) t w P Q after
put_then bag v u r t share stamp w P Q after same is put = subst (λ (x : View × RefParts). HasPut bag x.0 x.1 w P Q after) (λ k. (is k, same k)) put

module _ (v : View) (r : RefParts) (share : Share) (stamp : ℕ) (taken : HasTaken v r share) where
  abbrev value : ℕ
  value = packed_number r.generation stamp

  abbrev u : View
  u = retired v r share stamp

  limbo_keeps : Stays Limbo v u
  limbo_keeps = retired_keeps v r share value taken Limbo (λ e. cc)

  free_keeps : Stays Free v u
  free_keeps = retired_keeps v r share value taken Free (λ e. cc)

  -- Each bag, and the free chain, as it is then
  then_bag : (bag : Chain) → IsChainOf Limbo v bag → IsChainOf Limbo u bag × (refs_in u bag ≡ refs_in v bag)
  then_bag bag h = (chain_stays Limbo v u refl limbo_keeps bag h, refs_stay Limbo v u refl limbo_keeps bag h)

  then_free : (free : Chain) → IsChainOf Free v free → IsChainOf Free u free × (refs_in u free ≡ refs_in v free)
  then_free free h = (chain_stays Free v u refl free_keeps free h, refs_stay Free v u refl free_keeps free h)

  free_apart : (free : Chain) → IsChainOf Free v free → IsApart r (refs_in u free)
  free_apart free h = subst (IsApart r) (sym (then_free free h).1) (retired_apart v r share value taken Free free (λ e. cc) h)

  -- what the rows ask of a bag
  pub then_rows : (x : View) → x ≡ u → (P : Type 0) → P → (bag : Chain) → IsChainOf Limbo v bag → IsChain (λ (q : RefParts). P × OwnsAway x q) (row_in x) bag
  then_rows x is P p bag h = subst (λ (y : View). IsChain (λ (q : RefParts). P × OwnsAway y q) (row_in y) bag) (sym is) (chain_weaker (OwnsAway u) (λ (q : RefParts). P × OwnsAway u q) (row_in u) bag (λ q a. (p, a)) (chain_away Limbo u bag tt (then_bag bag h).0))

  -- the record is in limbo
  pub then_as : IsRef r → IsAs Limbo u r
  then_as in_range = retired_as v r share value taken in_range

  module _ (x : View) (t : RefParts) (is : x ≡ u) (same : t ≡ r) where
    -- its chain word is the caller's
    pub then_owns : IsRef t → OwnsAway x t
    then_owns in_range = subst (λ (y : View × RefParts). OwnsAway y.0 y.1) (λ k. (sym is k, sym same k)) (let a = then_as (subst IsRef same in_range) in record { owns = a.owns; away = subst IsAway (sym a.standing_is) tt })

    -- and it is in no bag
    pub then_apart : (bag : Chain) → IsChainOf Limbo v bag → IsApart t (refs_in x bag)
    then_apart bag h = subst (λ (y : View × RefParts). IsApart y.1 (refs_in y.0 bag)) (λ k. (sym is k, sym same k)) (subst (IsApart r) (sym (then_bag bag h).1) (retired_apart v r share value taken Limbo bag (λ e. cc) h))

  -- Behind it come steps on chain words alone
  module _ (w : View) (still : IsStill u w) where
    pub put_idle : idle w.own ≡ idle v.own
    put_idle = still_idle u w still ∙ retired_idle v r share value taken

    -- nothing is freed by it
    pub put_frees : (free : Chain) (f : Freed) → IsNoneFreed f → FreesInto v free f w free
    put_frees free f none = record {
      idle = let a = put_idle in let c = none.0 in let d = none.1 in omega arith;
      count = let c = none.0 in let d = none.1 in omega arith;
      freed = let a = ap (λ (m : Moves). m.freed) (still_moves u w still) in let c = none.0 in omega arith;
      spent = let a = still_had u w still is_spent in let b = retired_spent v r share value taken in let d = none.1 in omega arith;
      limbo = λ left. still_left u w still (retired_limbo v r share value taken left);
    }

    pub put_rest : LeavesRestBut r.index v w
    put_rest = rest_then v u w r.index (retired_leaves v r share value taken) (still_rest u w still)

    -- one more is in limbo
    pub put_had : had is_limbo w.own ≡ had is_limbo v.own + 1
    put_had = still_had u w still is_limbo ∙ retired_had v r share value taken

    -- a test reads the same of those that were in limbo before
    pub put_read : (q : RefParts) → IsAs Limbo v q → limbo_read w q ≡ limbo_read v q
    put_read q a = still_read u w still q (as_stays Limbo v u refl limbo_keeps q a).owns ∙ ap (λ (row : Row). record { reference = q; birth = row.birth; stamp = row.stamp }) (row_stays Limbo v u refl limbo_keeps q a)

  -- What is known of the records then, and the steps
  module _ (w : View) (next : Option RefParts) (made : w ≡ stored u r.index 1 (chain_word r.generation next)) where
    view_is : w ≡ stored_as u r.index 1 (chain_word r.generation next) (Some (retired_share share value))
    view_is = made ∙ ap (stored_as u r.index 1 (chain_word r.generation next)) (retired_known v r share value taken)

    pub put_mine : w.own.mine ≡ set v.own.mine (r.index - 1) (Some (bagged_share share r stamp next))
    put_mine = ap (λ (x : View). x.own.mine) view_is ∙ set-set v.own.mine (r.index - 1) (Some (retired_share share value)) (Some (bagged_share share r stamp next))

    pub put_steps : w.own.steps ≡ v.own.steps ++ stamp_store v.own r stamp (get_or share.words 2 0) ∷ chain_store v.own r next (get_or (retired_share share value).words 1 0) ∷ []
    put_steps = ap (λ (x : View). x.own.steps) view_is ∙ append_assoc v.own.steps _ _
        ∙ ap (λ (n : ℕ). v.own.steps ++ stamp_store v.own r stamp (get_or share.words 2 0) ∷ record (chain_store v.own r next (get_or (retired_share share value).words 1 0)) { idle = n } ∷ []) (retired_idle v r share value taken)

  module _ (w : View) (bag : Chain) (P Q : Type 0) (after : Chain) (put : HasPut bag u r w P Q after) where
    abbrev owns : RefParts → Type 0
    owns q = Q × OwnsAway w q

    -- It is the first one of the bag
    pub put_refs : IsChainOf Limbo v bag → refs_in w after ≡ r ∷ refs_in v bag
    put_refs h = put.refs ∙ ap (λ (l : List RefParts). r ∷ l) (then_bag bag h).1

    pub put_bag : IsChainOf Limbo v bag → IsChainOf Limbo w after
    put_bag h = pushed_chain Limbo owns u w put.still bag after r (then_bag bag h).0 (then_as put.in_range) put.list put.refs

    pub put_count : IsChainOf Limbo v bag → after.count ≡ bag.count + 1
    put_count h = let a = put.list.count in let b = ap (λ (l : List RefParts). length l) (put_refs h) in let d = h.list.count in omega arith

    -- another bag is what it was
    pub put_other : (other : Chain) → IsChainOf Limbo v other → IsChainOf Limbo w other × (refs_in w other ≡ refs_in v other)
    put_other other h = let x = then_bag other h in let k = put.kept other (then_rows u refl P put.was other h) (then_apart u r refl refl other h) in (kept_chain Limbo owns u w put.still other x.0 k, k.refs ∙ x.1)

    -- and so is the free chain
    pub put_free : (free : Chain) → IsChainOf Free v free → IsChainOf Free w free
    put_free free h = let x = then_free free h in kept_chain Free owns u w put.still free x.0 (put.kept free (chain_weaker (OwnsAway u) (λ (q : RefParts). P × OwnsAway u q) (row_in u) free (λ q a. (put.was, a)) (chain_away Free u free tt x.0)) (free_apart free h))

    -- where the bag has all that the caller has in limbo, so it has then
    pub put_whole : IsChainOf Limbo v bag → bag.count ≡ had is_limbo v.own → after.count ≡ had is_limbo w.own
    put_whole h whole = let a = put_count h in let b = put_had w put.still in omega arith

    pub put_kept : IsChainOf Limbo v bag → bag.count ≡ had is_limbo v.own → HasKept v r stamp w
    put_kept h whole = record { share = share; taken = taken; next = bag.head; before = head_for (λ x. true) v bag h (λ k d lt. refl) (whole ∙ bag_all v.own); still = put.still; view = put.made }
