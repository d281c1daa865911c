-- Own records stay a caller's own.
use Rattle.std.proofs.Common.{◌≡◌, ℕ, ◌-◌, ◌≤◌, List, length, length-set, get_or, set, get_or-set_other, Option, Some, None, sym, refl, ap, ◌∙◌, subst}
use native.Mathlib.Decide.{ℕ_discrete}
use Rattle.record_memory.specs.declared.books.View.{View}
use Rattle.record_memory.specs.declared.books.Share.{Share}
use Rattle.record_memory.specs.declared.books.Standing.TheVariants.{Own}
use Rattle.row_words.specs.Refs.{RefParts}
use Rattle.record_rule.specs.Kinds.{share_in, stored, stored_as, share_after, standing_after}
use Rattle.record_rule.specs.HandingOut.{HasOwn, IsOwnOf}
use Rattle.reclaim_api.proofs.Kept.{Stays}
use Rattle.manager.specs.Callers.{KeepsOwn, KeepsOwnBut}
use Rattle.manager.proofs.OneShare.{here}
use Rattle.manager.proofs.Stay.{mine_stays}

module _ (v w : View) (records : w.setup.records ≡ v.setup.records) where
  -- one of which the same is known has the same row
  row_at : (r : RefParts) (row : List ℕ) (h : HasOwn v r row) → share_in w r.index ≡ Some h.share → HasOwn w r row
  row_at r row h known = record { within = subst (λ (n : ℕ). r.index ≤ n) (sym records) h.within; share = h.share; known = known; standing_is = h.standing_is; generation = h.generation; row_is = h.row_is; eight = h.eight }

  -- as after a step that leaves the caller's book of its records, such as a refused exchange
  pub row_stays : w.own.mine ≡ v.own.mine → (r : RefParts) (row : List ℕ) → HasOwn v r row → HasOwn w r row
  row_stays mine r row h = row_at r row h (ap (λ l. get_or l (r.index - 1) None) mine ∙ h.known)

  own_at : (r : RefParts) (row : List ℕ) (h : HasOwn v r row) → share_in w r.index ≡ Some h.share → IsOwnOf w r
  own_at r row h known = (row, row_at r row h known)

  -- all that stay in the caller's book
  pub owns_stay : Stays Own v w → KeepsOwn v w
  owns_stay stays r own = own_at r own.0 own.1 (stays r.index own.1.share own.1.known own.1.standing_is)

  -- where that is the same
  pub owns_mine : w.own.mine ≡ v.own.mine → KeepsOwn v w
  owns_mine mine = owns_stay (mine_stays Own v w mine)

  -- or changes at one record
  pub owns_but : (i : ℕ) (new : Option Share) → w.own.mine ≡ set v.own.mine (i - 1) new → KeepsOwnBut i v w
  owns_but i new mine r ne own = own_at r own.0 own.1 (ap (λ l. get_or l (r.index - 1) None) mine ∙ get_or-set_other v.own.mine (i - 1) (r.index - 1) new None ne ∙ own.1.known)

-- one share
some_same : (a b : Share) → Some a ≡ Some b → a ≡ b
some_same a b e = cc

-- a word of an own record is stored
module _ (v w : View) (own : RefParts) (word value : ℕ) (has : IsOwnOf v own) (step : w ≡ stored v own.index word value) where
  abbrev old : Share
  old = has.1.share

  stored_is : w ≡ stored_as v own.index word value (Some old)
  stored_is = step ∙ ap (stored_as v own.index word value) has.1.known

  stored_mine : w.own.mine ≡ set v.own.mine (own.index - 1) (Some (share_after old word value))
  stored_mine = ap (λ (x : View). x.own.mine) stored_is

  pub owns_store : KeepsOwn v w
  owns_store r mine = by (ℕ_discrete (r.index - 1) (own.index - 1))
    where
      by : Dec (r.index - 1 ≡ own.index - 1) → IsOwnOf w r
      by (no ne) = owns_but v w (ap (λ (x : View). x.setup.records) stored_is) own.index (Some (share_after old word value)) stored_mine r ne mine
      by (yes e) = let same : mine.1.share ≡ old = some_same mine.1.share old (sym mine.1.known ∙ ap (λ k. get_or v.own.mine k None) e ∙ has.1.known) in (
        set old.words word value,
        record {
          within = subst (λ (x : View). r.index ≤ x.setup.records) (sym stored_is) mine.1.within;
          share = share_after old word value;
          known = ap (λ k. get_or w.own.mine k None) e ∙ here v w own.index old (share_after old word value) has.1.known stored_mine;
          standing_is = ap standing_after has.1.standing_is;
          generation = ap (λ (x : Share). x.generation) (sym same) ∙ mine.1.generation;
          row_is = refl;
          eight = length-set old.words word value ∙ ap (λ (l : List ℕ). length l) has.1.row_is ∙ has.1.eight;
        },
      )

-- the record has the stored word from then on
pub row_stored : (v w : View) (own : RefParts) (row : List ℕ) (word value : ℕ) → HasOwn v own row → w ≡ stored v own.index word value → HasOwn w own (set row word value)
row_stored v w own row word value h step = let is : w ≡ stored_as v own.index word value (Some h.share) = step ∙ ap (stored_as v own.index word value) h.known in record {
  within = subst (λ (x : View). own.index ≤ x.setup.records) (sym is) h.within;
  share = share_after h.share word value;
  known = here v w own.index h.share (share_after h.share word value) h.known (ap (λ (x : View). x.own.mine) is);
  standing_is = ap standing_after h.standing_is;
  generation = h.generation;
  row_is = ap (λ (l : List ℕ). set l word value) h.row_is;
  eight = length-set row word value ∙ h.eight;
}
