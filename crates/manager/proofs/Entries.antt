-- What is known of one record changes, which is neither free, spare nor in limbo.
use Rattle.std.proofs.Common.{◌≡◌, ℕ, ◌-◌, ◌<◌, length, get_or, set, get_or-set_other, get_or-set_same, false, Option, Some, None, sym, refl, ap, ◌∙◌, subst}
use Rattle.std.specs.List.{count_by}
use native.Mathlib.Decide.{ℕ_discrete}
use Rattle.record_memory.specs.declared.books.View.{View}
use Rattle.record_memory.specs.declared.books.Share.{Share}
use Rattle.record_memory.specs.declared.books.Standing.{Standing}
use Rattle.record_memory.specs.declared.books.Standing.TheVariants.{Handing, Own, Spare, TakenOut, Limbo, Free, Spent}
use Rattle.record_rule.specs.Kinds.{share_in, is_idle_as, is_idle, idle}
use Rattle.record_rule.proofs.Lists.{counts_same}
use Rattle.reclaim_api.specs.Frames.{away_as, in_away}
use Rattle.reclaim_api.proofs.Kept.{Stays}
use Rattle.manager.proofs.OneShare.{AwayStays}

-- a record that its caller has in no chain and not in limbo
abbrev pub IsAloofAs : Standing → Type 0
IsAloofAs (Handing n) = Unit {0}
IsAloofAs Own = Unit {0}
IsAloofAs Spare = ⊥
IsAloofAs TakenOut = Unit {0}
IsAloofAs Limbo = ⊥
IsAloofAs Free = ⊥
IsAloofAs Spent = ⊥

abbrev pub IsAloof : Option Share → Type 0
IsAloof None = Unit {0}
IsAloof (Some h) = IsAloofAs h.standing

-- it isn't idle
idle_as : (s : Standing) → IsAloofAs s → is_idle_as s ≡ false
idle_as (Handing n) a = refl
idle_as Own a = refl
idle_as TakenOut a = refl
idle_as Spare a = absurd a
idle_as Limbo a = absurd a
idle_as Free a = absurd a
idle_as Spent a = absurd a

not_idle : (o : Option Share) → IsAloof o → is_idle o ≡ false
not_idle None a = refl
not_idle (Some h) a = idle_as h.standing a

-- nor in limbo
limbo_none : (h : Share) (s : Standing) → IsAloofAs s → away_as h s ≡ None
limbo_none h (Handing n) a = refl
limbo_none h Own a = refl
limbo_none h TakenOut a = refl
limbo_none h Spare a = absurd a
limbo_none h Limbo a = absurd a
limbo_none h Free a = absurd a
limbo_none h Spent a = absurd a

not_limbo : (o : Option Share) → IsAloof o → in_away o ≡ None
not_limbo None a = refl
not_limbo (Some h) a = limbo_none h h.standing a

module _ (v w : View) (i : ℕ) (old new : Option Share) (was : share_in v i ≡ old) (mine : w.own.mine ≡ set v.own.mine (i - 1) new) (within : i - 1 < length v.own.mine) (before : IsAloof old) (after : IsAloof new) where
  -- the record itself
  here : get_or w.own.mine (i - 1) None ≡ new
  here = ap (λ l. get_or l (i - 1) None) mine ∙ get_or-set_same v.own.mine (i - 1) new None within

  -- records in chains stay
  pub entry_stays : (standing : Standing) → (IsAloofAs standing → ⊥) → Stays standing v w
  entry_stays standing chained j h at is = by (ℕ_discrete (j - 1) (i - 1))
    where
      by : Dec (j - 1 ≡ i - 1) → share_in w j ≡ Some h
      by (yes e) = absurd (chained (subst IsAloofAs is (subst IsAloof (sym was ∙ sym (ap (λ k. get_or v.own.mine k None) e) ∙ at) before)))
      by (no ne) = ap (λ l. get_or l (j - 1) None) mine ∙ get_or-set_other v.own.mine (i - 1) (j - 1) new None ne ∙ at

  -- and so does what is in limbo
  pub entry_limbo : AwayStays v w
  entry_limbo j = by (ℕ_discrete j (i - 1))
    where
      by : Dec (j ≡ i - 1) → in_away (get_or w.own.mine j None) ≡ in_away (get_or v.own.mine j None)
      by (yes e) = ap (λ k. in_away (get_or w.own.mine k None)) e ∙ ap in_away here ∙ not_limbo new after ∙ sym (not_limbo old before) ∙ ap in_away (sym was) ∙ sym (ap (λ k. in_away (get_or v.own.mine k None)) e)
      by (no ne) = ap (λ l. in_away (get_or l j None)) mine ∙ ap in_away (get_or-set_other v.own.mine (i - 1) j new None ne)

  -- as many are idle
  pub entry_idle : idle w.own ≡ idle v.own
  unfolding idle
  entry_idle = ap (count_by is_idle) mine ∙ counts_same is_idle v.own.mine (i - 1) new None within (not_idle new after ∙ sym (ap is_idle was ∙ not_idle old before))
