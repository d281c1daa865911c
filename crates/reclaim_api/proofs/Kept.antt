-- Chains that stay the same lists, and records that stay.
use Rattle.std.proofs.Common.{arith, Bool, true, false, ◌&&◌, ◌≡◌, ◌≢◌, ℕ, ◌+◌, ◌-◌, ◌≤◌, [], length, append-nil, get_or, get_or-set_same, get_or-set_other, sym, refl, ap, ◌∙◌, subst, Option, Some, None}
use native.Mathlib.Decide.{ℕ_discrete}
use Rattle.std.proofs.lemmas.List.Elements.{All-weaker}
use Rattle.record_memory.specs.declared.books.Book.{Book}
use Rattle.record_memory.specs.declared.books.Guard.{Guard}
use Rattle.record_memory.specs.declared.books.View.{View}
use Rattle.record_memory.specs.declared.books.Share.{Share}
use Rattle.record_memory.specs.declared.books.Standing.{Standing}
use Rattle.record_memory.specs.declared.books.Standing.TheVariants.{Handing, Own, Spare, TakenOut, Limbo, Free, Spent}
use Rattle.row_words.specs.Refs.{RefParts}
use Rattle.row_words.specs.declared.links.Chain.{Chain}
use Rattle.limbo_bags.specs.Chains.{IsKept}
use Rattle.limbo_bags.proofs.Chains.{chain_kept}
use Rattle.record_rule.specs.Facts.{CoverFacts, Moment}
use Rattle.record_rule.specs.Guards.{started_at, started_if}
use Rattle.record_rule.specs.Kinds.{share_in, is_idle_as, is_idle, idle}
use Rattle.record_rule.specs.Standings.{is_limbo, is_spent}
use Rattle.record_rule.proofs.Lists.{counts_same, counts_more}
use Rattle.record_rule.specs.Links.{HasTaken, retired_with, retired_share}
use Rattle.record_rule.proofs.HandingOut.{known_within}
use Rattle.record_rule.specs.HandingOut.{IsOwnOf}
use Rattle.record_rule.specs.ChainRows.{row_in, row_of_share}
use Rattle.record_rule.proofs.TakesFree.{read_with}
use Rattle.reclaim_api.specs.Chained.{IsAs, IsChainOf, refs_in}
use Rattle.reclaim_api.specs.Frames.{GoesOn, AddsSteps, away_as, in_away, rest_as, in_rest, is_as, had, IsLimboLeft, LeavesRestBut}

-- what is known of the records with this standing
abbrev pub Stays : Standing → View → View → Type 0
Stays standing v w = (i : ℕ) (h : Share) → share_in v i ≡ Some h → h.standing ≡ standing → share_in w i ≡ Some h

module _ (standing : Standing) (v w : View) (records : w.setup.records ≡ v.setup.records) (stays : Stays standing v w) where
  -- a record that the caller has so, it has so still
  pub as_stays : (r : RefParts) → IsAs standing v r → IsAs standing w r
  as_stays r h = record {
    owns = record {
      is_ref = h.owns.is_ref;
      within = subst (λ n. r.index ≤ n) (sym records) h.owns.within;
      share = h.owns.share;
      known = stays r.index h.owns.share h.owns.known h.standing_is;
      chained = h.owns.chained;
      generation = h.owns.generation;
      long = h.owns.long;
    };
    standing_is = h.standing_is;
    words = h.words;
  }

  -- and its row is what it was
  pub row_stays : (r : RefParts) → IsAs standing v r → row_in w r ≡ row_in v r
  row_stays r h = let p = h.owns.is_ref.index.0 in ap row_of_share (read_with w r.index p ∙ stays r.index h.owns.share h.owns.known h.standing_is ∙ sym h.owns.known ∙ sym (read_with v r.index p))

  -- so a chain of such records is the same list
  chain_still : (chain : Chain) → IsChainOf standing v chain → IsKept (IsAs standing w) (row_in v) (row_in w) chain
  chain_still chain h = chain_kept (IsAs standing v) (IsAs standing w) (row_in v) (row_in w) chain as_stays (All-weaker (IsAs standing v) (λ q. row_in w q ≡ row_in v q) row_stays (refs_in v chain) h.list.owned) h.list

  -- a list
  pub chain_stays : (chain : Chain) → IsChainOf standing v chain → IsChainOf standing w chain
  chain_stays chain h = record { list = (chain_still chain h).list }

  -- of the same records
  pub refs_stay : (chain : Chain) → IsChainOf standing v chain → refs_in w chain ≡ refs_in v chain
  refs_stay chain h = (chain_still chain h).refs

-- the share of a record that stays
rest_back : (g h : Share) (s : Standing) → rest_as g s ≡ Some h → g ≡ h
rest_back g h (Handing n) e = cc
rest_back g h Own e = cc
rest_back g h Spare e = cc
rest_back g h TakenOut e = cc
rest_back g h Limbo e = let none : ⊥ = cc in absurd none
rest_back g h Free e = let none : ⊥ = cc in absurd none
rest_back g h Spent e = let none : ⊥ = cc in absurd none

-- wherever it is
rest_is : (o : Option Share) (h : Share) → in_rest o ≡ Some h → o ≡ Some h
rest_is None h e = let none : ⊥ = cc in absurd none
rest_is (Some g) h e = ap (λ (x : Share). Some x) (rest_back g h g.standing e)

-- a record that is spare stays where the rest does
pub spare_rest : (v w : View) → ((i : ℕ) → in_rest (share_in w i) ≡ in_rest (share_in v i)) → Stays Spare v w
spare_rest v w rest i h known is = rest_is (share_in w i) h (rest i ∙ ap in_rest known ∙ ap (rest_as h) is)

-- and so does an own one
pub own_rest : (v w : View) → ((i : ℕ) → in_rest (share_in w i) ≡ in_rest (share_in v i)) → Stays Own v w
own_rest v w rest i h known is = rest_is (share_in w i) h (rest i ∙ ap in_rest known ∙ ap (rest_as h) is)

-- one share
some_same : (a b : Share) → Some a ≡ Some b → a ≡ b
some_same a b e = cc

-- where it stays but for a record that was taken out
pub spare_rest_but : (v w : View) (r : RefParts) (share : Share) → HasTaken v r share → LeavesRestBut r.index v w → Stays Spare v w
spare_rest_but v w r share taken rest i h known is = by (ℕ_discrete (i - 1) (r.index - 1))
  where
    by : Dec (i - 1 ≡ r.index - 1) → share_in w i ≡ Some h
    by (yes e) = let same : h ≡ share = some_same h share (sym known ∙ ap (λ j. get_or v.own.mine j None) e ∙ taken.known) in let two : Spare ≡ TakenOut = sym is ∙ ap (λ (x : Share). x.standing) same ∙ taken.standing in let none : ⊥ = cc in absurd none
    by (no ne) = rest_is (share_in w i) h (rest.rest (i - 1) ne ∙ ap in_rest known ∙ ap (rest_as h) is)

-- and so does an own record
pub own_rest_but : (v w : View) (r : RefParts) (share : Share) → HasTaken v r share → LeavesRestBut r.index v w → w.setup.records ≡ v.setup.records → (o : RefParts) → IsOwnOf v o → IsOwnOf w o
own_rest_but v w r share taken rest records o own = let h = own.1 in (
  own.0,
  record {
    within = subst (λ (n : ℕ). o.index ≤ n) (sym records) h.within;
    share = h.share;
    known = by (ℕ_discrete (o.index - 1) (r.index - 1));
    standing_is = h.standing_is;
    generation = h.generation;
    row_is = h.row_is;
    eight = h.eight;
  },
)
  where
    by : Dec (o.index - 1 ≡ r.index - 1) → share_in w o.index ≡ Some own.1.share
    by (yes e) = let same : own.1.share ≡ share = some_same own.1.share share (sym own.1.known ∙ ap (λ j. get_or v.own.mine j None) e ∙ taken.known) in
        let two : Own ≡ TakenOut = sym own.1.standing_is ∙ ap (λ (x : Share). x.standing) same ∙ taken.standing in let none : ⊥ = cc in absurd none
    by (no ne) = rest_is (share_in w o.index) own.1.share (rest.rest (o.index - 1) ne ∙ ap in_rest own.1.known ∙ ap (rest_as own.1.share) own.1.standing_is)

-- a record is retired
module _ (v : View) (r : RefParts) (share : Share) (value : ℕ) (taken : HasTaken v r share) where
  -- records that weren't taken out stay
  pub retired_keeps : (standing : Standing) → standing ≢ TakenOut → Stays standing v (retired_with v r share value)
  retired_keeps standing other i h known is = by (ℕ_discrete (i - 1) (r.index - 1))
    where
      by : Dec (i - 1 ≡ r.index - 1) → share_in (retired_with v r share value) i ≡ Some h
      by (yes e) = let same : h ≡ share = some_same h share (sym known ∙ ap (λ j. get_or v.own.mine j None) e ∙ taken.known) in absurd (other (sym is ∙ ap (λ (x : Share). x.standing) same ∙ taken.standing))
      by (no ne) = get_or-set_other v.own.mine (r.index - 1) (i - 1) (Some (retired_share share value)) None ne ∙ known

  -- of the others the caller knows the same
  pub retired_leaves : LeavesRestBut r.index v (retired_with v r share value)
  retired_leaves = record {
    rest = λ j ne. ap in_rest (get_or-set_other v.own.mine (r.index - 1) j (Some (retired_share share value)) None ne);
    gone = ap in_rest (get_or-set_same v.own.mine (r.index - 1) (Some (retired_share share value)) None (known_within v.own.mine (r.index - 1) share taken.known));
    moves = refl;
    answered = refl;
    locks = refl;
    front = refl;
  }

  -- as many are idle
  pub retired_idle : idle (retired_with v r share value).own ≡ idle v.own
  unfolding idle
  retired_idle = counts_same is_idle v.own.mine (r.index - 1) (Some (retired_share share value)) None (known_within v.own.mine (r.index - 1) share taken.known)
      (sym (ap is_idle taken.known ∙ ap (λ (q : Standing). is_idle_as q) taken.standing))

  -- one more is in limbo, and as many are spent
  pub retired_had : had is_limbo (retired_with v r share value).own ≡ had is_limbo v.own + 1
  retired_had = counts_more (is_as is_limbo) v.own.mine (r.index - 1) (Some (retired_share share value)) None (known_within v.own.mine (r.index - 1) share taken.known) (ap (is_as is_limbo) taken.known ∙ ap is_limbo taken.standing) refl

  pub retired_limbo : IsLimboLeft v.own → IsLimboLeft (retired_with v r share value).own
  retired_limbo left = let more = retired_had in omega arith

  pub retired_spent : had is_spent (retired_with v r share value).own ≡ had is_spent v.own
  retired_spent = counts_same (is_as is_spent) v.own.mine (r.index - 1) (Some (retired_share share value)) None (known_within v.own.mine (r.index - 1) share taken.known) (sym (ap (is_as is_spent) taken.known ∙ ap is_spent taken.standing))

-- what a guard keeps where it starts anew, it keeps where it may have started
pub kept_on : {A : Type 0} (f : Guard → A) → ((m : Moment) (g : Guard) (step : ℕ) → f (started_at m g step) ≡ f g) → (b : Bool) (m : Moment) (g : Guard) (step : ℕ) → f (started_if b m g step) ≡ f g
kept_on f keeps true m g step = keeps m g step
kept_on f keeps false m g step = refl

-- a guard that is the same goes on
pub goes_on : (c : CoverFacts) (v w : View) → w.own.guard ≡ v.own.guard → GoesOn c v w
goes_on c v w e = record { first = false; moment = record { epoch = 0; taken_out = 0; updates = length v.front }; step = 0; guard = e ∙ sym (unstarted c.begins_loading); made = omega arith; behind = omega arith }
  where
    unstarted : (b : Bool) → started_if (b && false) (record { epoch = 0; taken_out = 0; updates = length v.front }) v.own.guard 0 ≡ v.own.guard
    unstarted true = refl
    unstarted false = refl

-- no step adds none
pub same_adds : (b c : Book) → c ≡ b → AddsSteps b c
same_adds b c e = ([], ap (λ (x : Book). x.steps) e ∙ sym (append-nil b.steps))

-- what is known of a record in limbo or spent is the share itself
away_back : (g h : Share) (s : Standing) → away_as g s ≡ Some h → g ≡ h
away_back g h Limbo e = cc
away_back g h Spent e = cc
away_back g h (Handing n) e = let none : ⊥ = cc in absurd none
away_back g h s e = let none : ⊥ = cc in absurd none

away_is : (o : Option Share) (h : Share) → in_away o ≡ Some h → o ≡ Some h
away_is None h e = let none : ⊥ = cc in absurd none
away_is (Some g) h e = ap (λ (x : Share). Some x) (away_back g h g.standing e)

-- so records in limbo stay where these are the same
pub limbo_away : (v w : View) → ((i : ℕ) → in_away (get_or w.own.mine i None) ≡ in_away (get_or v.own.mine i None)) → Stays Limbo v w
limbo_away v w away i h known is = away_is (share_in w i) h (away (i - 1) ∙ ap in_away known ∙ ap (away_as h) is)
