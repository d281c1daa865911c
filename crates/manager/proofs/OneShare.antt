-- What is known of one record changes.
use Rattle.std.proofs.Common.{◌≡◌, ◌≢◌, ℕ, ◌-◌, ◌<◌, length, get_or, set, get_or-set_same, get_or-set_other, sym, ap, ◌∙◌, Some, None}
use native.Mathlib.Decide.{ℕ_discrete}
use Rattle.record_memory.specs.declared.books.View.{View}
use Rattle.record_memory.specs.declared.books.Share.{Share}
use Rattle.record_memory.specs.declared.books.Standing.{Standing}
use Rattle.record_rule.specs.Kinds.{share_in}
use Rattle.record_rule.proofs.HandingOut.{known_within}
use Rattle.reclaim_api.specs.Frames.{in_away}
use Rattle.reclaim_api.proofs.Kept.{Stays}

-- of the records in limbo the caller knows the same
abbrev pub AwayStays : View → View → Type 0
AwayStays v w = (j : ℕ) → in_away (get_or w.own.mine j None) ≡ in_away (get_or v.own.mine j None)

-- one share
some_same : (a b : Share) → Some a ≡ Some b → a ≡ b
some_same a b e = cc

module _ (v w : View) (i : ℕ) (old new : Share) (known : share_in v i ≡ Some old) (mine : w.own.mine ≡ set v.own.mine (i - 1) (Some new)) where
  -- the record itself
  pub here : share_in w i ≡ Some new
  here = ap (λ l. get_or l (i - 1) None) mine ∙ get_or-set_same v.own.mine (i - 1) (Some new) None (known_within v.own.mine (i - 1) old known)

  -- another one
  pub there : (j : ℕ) → j - 1 ≢ i - 1 → share_in w j ≡ share_in v j
  there j ne = ap (λ l. get_or l (j - 1) None) mine ∙ get_or-set_other v.own.mine (i - 1) (j - 1) (Some new) None ne

  -- those with another standing stay
  pub others_stay : (standing : Standing) → old.standing ≢ standing → Stays standing v w
  others_stay standing other j h at is = by (ℕ_discrete (j - 1) (i - 1))
    where
      by : Dec (j - 1 ≡ i - 1) → share_in w j ≡ Some h
      by (yes e) = absurd (other (sym (ap (λ (x : Share). x.standing) (some_same h old (sym at ∙ ap (λ k. get_or v.own.mine k None) e ∙ known))) ∙ is))
      by (no ne) = there j ne ∙ at

  -- what is in limbo stays where this one isn't
  pub limbo_stays : in_away (Some old) ≡ None → in_away (Some new) ≡ None → AwayStays v w
  limbo_stays before after j = by (ℕ_discrete j (i - 1))
    where
      by : Dec (j ≡ i - 1) → in_away (get_or w.own.mine j None) ≡ in_away (get_or v.own.mine j None)
      by (yes e) = ap (λ k. in_away (get_or w.own.mine k None)) e ∙ ap in_away here ∙ after ∙ sym before ∙ ap in_away (sym known) ∙ sym (ap (λ k. in_away (get_or v.own.mine k None)) e)
      by (no ne) = ap (λ l. in_away (get_or l j None)) mine ∙ ap in_away (get_or-set_other v.own.mine (i - 1) j (Some new) None ne)

-- a record comes to the caller, which didn't have it
module _ (v w : View) (i : ℕ) (new : Share) (none : share_in v i ≡ None) (mine : w.own.mine ≡ set v.own.mine (i - 1) (Some new)) where
  -- all that it had stay
  pub all_stay : (standing : Standing) → Stays standing v w
  all_stay standing j h at is = by (ℕ_discrete (j - 1) (i - 1))
    where
      by : Dec (j - 1 ≡ i - 1) → share_in w j ≡ Some h
      by (yes e) = let no : Some h ≡ None = sym at ∙ ap (λ k. get_or v.own.mine k None) e ∙ none in let bad : ⊥ = cc in absurd bad
      by (no ne) = ap (λ l. get_or l (j - 1) None) mine ∙ get_or-set_other v.own.mine (i - 1) (j - 1) (Some new) None ne ∙ at

  -- what is in limbo stays
  pub limbo_new : i - 1 < length v.own.mine → in_away (Some new) ≡ None → AwayStays v w
  limbo_new within after j = by (ℕ_discrete j (i - 1))
    where
      by : Dec (j ≡ i - 1) → in_away (get_or w.own.mine j None) ≡ in_away (get_or v.own.mine j None)
      by (yes e) = ap (λ k. in_away (get_or w.own.mine k None)) e ∙ ap (λ l. in_away (get_or l (i - 1) None)) mine ∙ ap in_away (get_or-set_same v.own.mine (i - 1) (Some new) None within) ∙ after ∙ sym (ap in_away none) ∙ sym (ap (λ k. in_away (get_or v.own.mine k None)) e)
      by (no ne) = ap (λ l. in_away (get_or l j None)) mine ∙ ap in_away (get_or-set_other v.own.mine (i - 1) j (Some new) None ne)
