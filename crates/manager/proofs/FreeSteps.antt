-- A load and a store of the chain word of a free record.
use Rattle.std.proofs.Common.{◌≡◌, ℕ, zero, suc, ◌-◌, ◌<◌, ◌≤◌, List, [], ◌∷◌, length-set, get_or, set, get_or-set_other, Option, Some, None, sym, refl, ap, ◌∙◌, subst}
use native.Mathlib.Decide.{ℕ_discrete}
use Rattle.record_memory.specs.declared.steps.Step.{Step}
use Rattle.record_memory.specs.declared.books.Moves.{Moves}
use Rattle.record_memory.specs.declared.books.View.{View}
use Rattle.record_memory.specs.declared.books.Share.{Share}
use Rattle.record_memory.specs.declared.books.Standing.{Standing}
use Rattle.record_memory.specs.declared.books.Standing.TheVariants.{Free}
use Rattle.row_words.specs.Refs.{RefParts}
use Rattle.record_rule.specs.Kinds.{loaded, stored, stored_as, share_after, standing_after, moves_stored, field_load, field_store, is_idle_as, idle}
use Rattle.record_rule.specs.ChainRows.{row_in, row_of_share, share_with, IsChained, IsAway, OwnsAway}
use Rattle.record_rule.specs.Makes.{Makes}
use Rattle.record_rule.proofs.Makes.{makes_one, idle_set}
use Rattle.reclaim_api.specs.Chained.{IsAs}
use Rattle.reclaim_api.specs.Frames.{away_as, in_away, rest_as, in_rest}
use Rattle.manager.specs.Giving.{GivesFree}
use Rattle.manager.proofs.OneShare.{here, there}

-- a free record was retired
pub free_away : (v : View) (r : RefParts) → IsAs Free v r → OwnsAway v r
free_away v r a = record { owns = a.owns; away = subst IsAway (sym a.standing_is) tt }

module _ (v w : View) where
  -- where of each record the same is known, so is its row
  with_mine : w.own.mine ≡ v.own.mine → (i : ℕ) → share_with w i ≡ share_with v i
  with_mine e zero = refl
  with_mine e (suc k) = ap (λ (m : List (Option Share)). get_or m (suc k - 1) None) e

  pub row_mine : w.own.mine ≡ v.own.mine → (r : RefParts) → row_in w r ≡ row_in v r
  row_mine e r = ap row_of_share (with_mine e r.index)

  -- and nothing is given
  pub gives_mine : (steps : List Step) → Makes v w steps → w.own.mine ≡ v.own.mine → w.own.moves ≡ v.own.moves → GivesFree v w
  gives_mine steps made mine moves = record {
    steps = steps;
    made = made;
    moves = moves;
    rest = λ i. ap (λ (m : List (Option Share)). in_rest (get_or m (i - 1) None)) mine;
    away = λ i. ap (λ (m : List (Option Share)). in_away (get_or m i None)) mine;
  }

  -- a load is one step
  pub load_made : (i n : ℕ) → w ≡ loaded v i 1 n → Makes v w (field_load v i 1 n ∷ [])
  load_made i n is = makes_one v w (field_load v i 1 n) v.own.mine v.own.moves is refl refl

-- a store
module _ (v w : View) (r : RefParts) (value : ℕ) (free : IsAs Free v r) (is : w ≡ stored v r.index 1 value) where
  -- what is known of the record before and afterwards
  abbrev old : Share
  old = free.owns.share

  abbrev new : Share
  new = share_after old 1 value

  -- the step
  abbrev pub store_step : Step
  store_step = field_store v r.index 1 value old

  then_is : w ≡ stored_as v r.index 1 value (Some old)
  then_is = is ∙ ap (stored_as v r.index 1 value) free.owns.known

  mine_is : w.own.mine ≡ set v.own.mine (r.index - 1) (Some new)
  mine_is = ap (λ (x : View). x.own.mine) then_is

  new_free : new.standing ≡ Free
  new_free = ap standing_after free.standing_is

  moves_same : moves_stored old.standing v.own.moves ≡ v.own.moves
  moves_same = ap (λ (q : Standing). moves_stored q v.own.moves) free.standing_is

  pub store_made : Makes v w (store_step ∷ [])
  store_made = makes_one v w store_step (set v.own.mine (r.index - 1) (Some new)) (moves_stored old.standing v.own.moves) then_is (ap (λ (m : Moves). m.retired) moves_same) (ap (λ (m : Moves). m.freed) moves_same)

  pub store_idle : idle w.own ≡ idle v.own
  store_idle = idle_set v w r.index old new free.owns.known mine_is (ap is_idle_as new_free ∙ sym (ap is_idle_as free.standing_is))

  -- what sees the record as before sees all as before
  sees : {A : Type 0} (see : Option Share → A) → see (Some new) ≡ see (Some old) → (j : ℕ) → see (get_or w.own.mine j None) ≡ see (get_or v.own.mine j None)
  sees see same j = by (ℕ_discrete j (r.index - 1))
    where
      by : Dec (j ≡ r.index - 1) → see (get_or w.own.mine j None) ≡ see (get_or v.own.mine j None)
      by (yes e) = ap (λ (k : ℕ). see (get_or w.own.mine k None)) e ∙ ap see (here v w r.index old new free.owns.known mine_is) ∙ same ∙ ap see (sym free.owns.known) ∙ sym (ap (λ (k : ℕ). see (get_or v.own.mine k None)) e)
      by (no ne) = ap (λ (l : List (Option Share)). see (get_or l j None)) mine_is ∙ ap see (get_or-set_other v.own.mine (r.index - 1) j (Some new) None ne)

  -- so nothing is given
  pub gives_store : GivesFree v w
  gives_store = record {
    steps = store_step ∷ [];
    made = store_made;
    moves = ap (λ (x : View). x.own.moves) then_is ∙ moves_same;
    rest = λ i. sees in_rest (ap (rest_as new) new_free ∙ sym (ap (rest_as old) free.standing_is)) (i - 1);
    away = λ i. sees in_away (ap (away_as new) new_free ∙ sym (ap (away_as old) free.standing_is)) i;
  }

  -- one share
  some_same : (a b : Share) → Some a ≡ Some b → a ≡ b
  some_same a b e = cc

  -- and each free record is free
  pub store_free : (q : RefParts) → IsAs Free v q → IsAs Free w q
  store_free q h = by (ℕ_discrete (q.index - 1) (r.index - 1))
    where
      by : Dec (q.index - 1 ≡ r.index - 1) → IsAs Free w q
      by (yes e) = let same : h.owns.share ≡ old = some_same h.owns.share old (sym h.owns.known ∙ ap (λ (k : ℕ). get_or v.own.mine k None) e ∙ free.owns.known) in record {
        owns = record {
          is_ref = h.owns.is_ref;
          within = subst (λ (x : View). q.index ≤ x.setup.records) (sym then_is) h.owns.within;
          share = new;
          known = ap (λ (k : ℕ). get_or w.own.mine k None) e ∙ here v w r.index old new free.owns.known mine_is;
          chained = subst IsChained (sym new_free) tt;
          generation = ap (λ (x : Share). x.generation) (sym same) ∙ h.owns.generation;
          long = subst (λ (n : ℕ). 2 < n) (sym (length-set old.words 1 value)) free.owns.long;
        };
        standing_is = new_free;
        words = length-set old.words 1 value ∙ free.words;
      }
      by (no ne) = record {
        owns = record {
          is_ref = h.owns.is_ref;
          within = subst (λ (x : View). q.index ≤ x.setup.records) (sym then_is) h.owns.within;
          share = h.owns.share;
          known = there v w r.index old new free.owns.known mine_is q.index ne ∙ h.owns.known;
          chained = h.owns.chained;
          generation = h.owns.generation;
          long = h.owns.long;
        };
        standing_is = h.standing_is;
        words = h.words;
      }
