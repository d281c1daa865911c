-- After steps on chain words alone each record is had as it was, and as many are idle, in limbo and spent.
use Rattle.std.proofs.Common.{◌≡◌, ℕ, zero, suc, ◌+◌, ◌-◌, ◌≤◌, cond, ◌&&◌, List, [], ◌∷◌, map, length, get_or, set, get_or-set_other, set-set, length-set, Bool, Option, Some, None, sym, refl, ap, ◌∙◌, subst, arith}
use Rattle.std.specs.List.{count_by}
use Rattle.record_memory.specs.declared.books.Moves.{Moves}
use Rattle.record_memory.specs.declared.books.Setup.{Setup}
use Rattle.record_memory.specs.declared.books.View.{View}
use Rattle.record_memory.specs.declared.books.Share.{Share}
use Rattle.record_memory.specs.declared.books.Standing.{Standing}
use Rattle.record_memory.specs.declared.books.Standing.TheVariants.{Limbo, Free, Spent}
use Rattle.row_words.specs.Refs.{RefParts, refer}
use Rattle.row_words.specs.Rows.{Row}
use Rattle.record_rule.specs.Standings.{is_limbo}
use Rattle.row_words.specs.Packing.{number_in}
use Rattle.record_rule.specs.Facts.{LimboRecord}
use Rattle.record_rule.specs.Kinds.{share_in, idle}
use Rattle.record_rule.specs.Freeing.{leaves_one, count_freed}
use Rattle.record_rule.specs.ChainRows.{row_of_share, row_in, IsChained, OwnsChain, IsAway, OwnsAway, unchained_as, unchained, IsStill}
use Rattle.record_rule.proofs.CountingPlaces.{bit, count_cons}
use Rattle.record_rule.proofs.ChainRows.{same_idle}
use Rattle.record_rule.proofs.TakesFree.{read_with}
use Rattle.reclaim_api.specs.Chained.{IsAs}
use Rattle.reclaim_api.specs.Frames.{rest_as, in_rest, LeavesRest, AddsSteps, is_as, had, IsLimboLeft}
use Rattle.reclaim_api.specs.Bags.{limbo_read, bag_count}

-- One record of which all but the chain word is known to be the same
pub record SameButChain (g h : Share) : Type 0 where
  pub standing : h.standing ≡ g.standing
  pub generation : h.generation ≡ g.generation
  pub taken_number : h.taken_number ≡ g.taken_number
  pub words : set h.words 1 0 ≡ set g.words 1 0

some_same : (a b : Share) → Some a ≡ Some b → a ≡ b
some_same a b e = cc

-- a chain word that is forgotten already
forgotten : (h : Share) (q : Standing) → record (unchained_as h q) { words = set (unchained_as h q).words 1 0 } ≡ record h { words = set h.words 1 0 }
forgotten h Limbo = λ k. record h { words = set-set h.words 1 0 0 k }
forgotten h Free = λ k. record h { words = set-set h.words 1 0 0 k }
forgotten h Spent = λ k. record h { words = set-set h.words 1 0 0 k }
forgotten h q = refl

same_but : (g h : Share) → unchained (Some h) ≡ unchained (Some g) → SameButChain g h
same_but g h e = let s : record h { words = set h.words 1 0 } ≡ record g { words = set g.words 1 0 } = sym (forgotten h h.standing)
    ∙ ap (λ (x : Share). record x { words = set x.words 1 0 }) (some_same (unchained_as h h.standing) (unchained_as g g.standing) e) ∙ forgotten g g.standing in record {
      standing = ap (λ (x : Share). x.standing) s;
      generation = ap (λ (x : Share). x.generation) s;
      taken_number = ap (λ (x : Share). x.taken_number) s;
      words = ap (λ (x : Share). x.words) s;
    }

-- it has as many words
pub same_long : (g h : Share) → SameButChain g h → length h.words ≡ length g.words
same_long g h s = sym (length-set h.words 1 0) ∙ ap length s.words ∙ length-set g.words 1 0

-- and the same words but for the second
pub same_word : (g h : Share) (i : ℕ) → ¬ i ≡ 1 → SameButChain g h → get_or h.words i 0 ≡ get_or g.words i 0
same_word g h i other s = sym (get_or-set_other h.words 1 i 0 0 other) ∙ ap (λ (l : List ℕ). get_or l i 0) s.words ∙ get_or-set_other g.words 1 i 0 0 other

got_unchained : (l : List (Option Share)) (i : ℕ) → get_or (map unchained l) i None ≡ unchained (get_or l i None)
got_unchained [] i = refl
got_unchained (x ∷ xs) zero = refl
got_unchained (x ∷ xs) (suc i) = got_unchained xs i

-- a count that chain words don't matter to
module _ (p : Option Share → Bool) (same : (o : Option Share) → p (unchained o) ≡ p o) where
  count_quiet : (l : List (Option Share)) → count_by p (map unchained l) ≡ count_by p l
  count_quiet [] = refl
  count_quiet (x ∷ xs) = let a = count_cons p (unchained x) (map unchained xs) in let b = count_cons p x xs in let c = ap bit (same x) in let d = count_quiet xs in omega arith

-- a test of limbo reads none of them
leaves_quiet : (test : LimboRecord → Bool) (i : ℕ) (o : Option Share) → leaves_one test i (unchained o) ≡ leaves_one test i o
leaves_quiet test i None = refl
leaves_quiet test i (Some h) = by h.standing
  where
    unread : leaves_one test i (Some (record h { words = set h.words 1 0 })) ≡ leaves_one test i (Some h)
    unread = λ k. cond (is_limbo h.standing && test (record {
      reference = refer (i + 1) h.generation;
      birth = number_in (get_or-set_other h.words 1 0 0 0 (λ e. omega arith) k);
      stamp = number_in (get_or-set_other h.words 1 2 0 0 (λ e. omega arith) k);
    })) 1 0

    by : (q : Standing) → leaves_one test i (Some (unchained_as h q)) ≡ leaves_one test i (Some h)
    by Limbo = unread
    by Free = unread
    by Spent = unread
    by q = refl

-- nor does what is known of others
rest_quiet : (o : Option Share) → in_rest (unchained o) ≡ in_rest o
rest_quiet None = refl
rest_quiet (Some h) = by h.standing refl
  where
    by : (q : Standing) → h.standing ≡ q → in_rest (Some (unchained_as h q)) ≡ in_rest (Some h)
    by Limbo e = ap (rest_as (record h { words = set h.words 1 0 })) e ∙ sym (ap (rest_as h) e)
    by Free e = ap (rest_as (record h { words = set h.words 1 0 })) e ∙ sym (ap (rest_as h) e)
    by Spent e = ap (rest_as (record h { words = set h.words 1 0 })) e ∙ sym (ap (rest_as h) e)
    by q e = refl

bag_quiet : (test : LimboRecord → Bool) (i : ℕ) (l : List (Option Share)) → count_freed test i (map unchained l) ≡ count_freed test i l
bag_quiet test i [] = refl
bag_quiet test i (x ∷ xs) = let a = leaves_quiet test i x in let b = bag_quiet test (i + 1) xs in omega arith

module _ (v w : View) (h : IsStill v w) where
  -- Nothing but steps, chain words and what is known of the draws changes
  pub still_setup : w.setup ≡ v.setup
  still_setup = ap (λ (x : View). x.setup) h.rest

  pub still_caller : w.own.caller ≡ v.own.caller
  still_caller = ap (λ (x : View). x.own.caller) h.rest

  pub still_guard : w.own.guard ≡ v.own.guard
  still_guard = ap (λ (x : View). x.own.guard) h.rest

  pub still_moves : w.own.moves ≡ v.own.moves
  still_moves = ap (λ (x : View). x.own.moves) h.rest

  pub still_answered : w.own.answered ≡ v.own.answered
  still_answered = ap (λ (x : View). x.own.answered) h.rest

  pub still_front : w.front ≡ v.front
  still_front = ap (λ (x : View). x.front) h.rest

  pub still_adds : AddsSteps v.own w.own
  still_adds = (h.made, h.steps)

  mine_quiet : map unchained w.own.mine ≡ map unchained v.own.mine
  mine_quiet = ap (λ (x : View). x.own.mine) h.rest

  -- As many are idle, in limbo and spent
  pub still_idle : idle w.own ≡ idle v.own
  still_idle = same_idle v w h.rest

  pub still_had : (test : Standing → Bool) → had test w.own ≡ had test v.own
  still_had test = sym (count_quiet (is_as test) quiet_as w.own.mine) ∙ ap (count_by (is_as test)) mine_quiet ∙ count_quiet (is_as test) quiet_as v.own.mine
    where
      quiet_as : (o : Option Share) → is_as test (unchained o) ≡ is_as test o
      quiet_as None = refl
      quiet_as (Some s) = by s.standing
        where
          by : (q : Standing) → is_as test (Some (unchained_as s q)) ≡ is_as test (Some s)
          by Limbo = refl
          by Free = refl
          by Spent = refl
          by q = refl

  pub still_left : IsLimboLeft v.own → IsLimboLeft w.own
  still_left left = let a = still_had is_limbo in let b = ap (λ (m : Moves). m.freed) still_moves in let c = ap (λ (m : Moves). m.retired) still_moves in omega arith

  -- and in each bag
  pub still_bag : (test : LimboRecord → Bool) → bag_count test w.own ≡ bag_count test v.own
  still_bag test = sym (bag_quiet test 0 w.own.mine) ∙ ap (count_freed test 0) mine_quiet ∙ bag_quiet test 0 v.own.mine

  -- Of each record all but the chain word is as it was
  pub still_entry : (i : ℕ) → unchained (get_or w.own.mine i None) ≡ unchained (get_or v.own.mine i None)
  still_entry i = sym (got_unchained w.own.mine i) ∙ ap (λ (l : List (Option Share)). get_or l i None) mine_quiet ∙ got_unchained v.own.mine i

  -- and of those that weren't retired the same is known
  pub still_rest : LeavesRest v w
  still_rest = record {
    rest = λ i. sym (rest_quiet (share_in w i)) ∙ ap in_rest (still_entry (i - 1)) ∙ rest_quiet (share_in v i);
    moves = ap (λ (m : Moves). record m { freed = v.own.moves.freed }) still_moves;
    answered = still_answered;
    locks = ap (λ (x : View). x.own.locks) h.rest;
    front = still_front;
  }

  pub still_share : (i : ℕ) (g : Share) → share_in v i ≡ Some g → (s : Share) × (share_in w i ≡ Some s) × SameButChain g s
  still_share i g known = by (share_in w i) refl
    where
      by : (o : Option Share) → share_in w i ≡ o → (s : Share) × (share_in w i ≡ Some s) × SameButChain g s
      by None e = let none : None ≡ unchained (Some g) = ap unchained (sym e) ∙ still_entry (i - 1) ∙ ap unchained known in let bad : ⊥ = cc in absurd bad
      by (Some s) e = (s, e, same_but g s (ap unchained (sym e) ∙ still_entry (i - 1) ∙ ap unchained known))

  still_records : w.setup.records ≡ v.setup.records
  still_records = ap (λ (k : Setup). k.records) still_setup

  -- So each chain word of the caller stays its own
  pub still_owns : (r : RefParts) → OwnsChain v r → OwnsChain w r
  still_owns r o = let x = still_share r.index o.share o.known in record {
    is_ref = o.is_ref;
    within = subst (λ (n : ℕ). r.index ≤ n) (sym still_records) o.within;
    share = x.0;
    known = x.1;
    chained = subst IsChained (sym x.2.standing) o.chained;
    generation = x.2.generation ∙ o.generation;
    long = let l = same_long o.share x.0 x.2 in let m = o.long in omega arith;
  }

  pub still_away : (r : RefParts) → OwnsAway v r → OwnsAway w r
  unfolding still_owns
  still_away r o = record { owns = still_owns r o.owns; away = subst IsAway (sym (still_share r.index o.owns.share o.owns.known).2.standing) o.away }

  -- a record that the caller has so, it has so still
  pub still_as : (standing : Standing) (r : RefParts) → IsAs standing v r → IsAs standing w r
  unfolding still_owns still_share
  still_as standing r a = let x = still_share r.index a.owns.share a.owns.known in record {
    owns = still_owns r a.owns;
    standing_is = x.2.standing ∙ a.standing_is;
    words = same_long a.owns.share x.0 x.2 ∙ a.words;
  }

  -- and a test reads the same of it
  pub still_read : (r : RefParts) → OwnsChain v r → limbo_read w r ≡ limbo_read v r
  still_read r o = λ k. record { reference = r; birth = birth k; stamp = stamp k }
    where
      then : (s : Share) × (share_in w r.index ≡ Some s) × SameButChain o.share s
      then = still_share r.index o.share o.known

      row_then : row_in w r ≡ row_of_share (Some then.0)
      row_then = ap row_of_share (read_with w r.index o.is_ref.index.0 ∙ then.1)

      row_was : row_in v r ≡ row_of_share (Some o.share)
      row_was = ap row_of_share (read_with v r.index o.is_ref.index.0 ∙ o.known)

      birth : (row_in w r).birth ≡ (row_in v r).birth
      birth = ap (λ (row : Row). row.birth) row_then ∙ ap number_in (same_word o.share then.0 0 (λ e. omega arith) then.2) ∙ sym (ap (λ (row : Row). row.birth) row_was)

      stamp : (row_in w r).stamp ≡ (row_in v r).stamp
      stamp = ap (λ (row : Row). row.stamp) row_then ∙ ap number_in (same_word o.share then.0 2 (λ e. omega arith) then.2) ∙ sym (ap (λ (row : Row). row.stamp) row_was)
