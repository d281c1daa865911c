-- A local part depends on the caller's guard and on its records in limbo alone, so not on how many records became its own.
use Rattle.std.proofs.Common.{◌≡◌, ◌-◌, ℕ, List, length, count_by, get_or, Bool, true, Option, None, sym, refl, ap, ◌∙◌}
use Rattle.record_memory.specs.declared.books.Guard.{Guard}
use Rattle.record_memory.specs.declared.books.Setup.{Setup}
use Rattle.record_memory.specs.declared.books.View.{View}
use Rattle.record_memory.specs.declared.books.Share.{Share}
use Rattle.record_memory.specs.declared.books.Standing.TheVariants.{Limbo}
use Rattle.record_rule.specs.Standings.{is_limbo}
use Rattle.reclaim_api.specs.Frames.{is_as, had, SamePart}
use Rattle.reclaim_api.specs.Locals.{born}
use Rattle.reclaim_api.proofs.Kept.{Stays, chain_stays, kept_on, limbo_away}
use Rattle.reclaim_api.proofs.Bagged.{bag_all, bag_away}
use Rattle.hazard_facts.specs.Pointers.{hazard}
use Rattle.reclaim_hazard.specs.declared.retired.Retired.{Retired}
use Rattle.reclaim_hazard.specs.LocalParts.{IsLocal}

-- the same where no record in limbo changes and none comes
pub local_by : (l : Retired) (i i' : Bool) (s s' v w : View) → w.setup ≡ v.setup → w.own.caller ≡ v.own.caller → Stays Limbo v w → had is_limbo w.own ≡ had is_limbo v.own → length w.own.guard.announced ≡ length v.own.guard.announced → w.own.guard.loaded ≡ v.own.guard.loaded
    → IsLocal l i s v → IsLocal l i' s' w
local_by l i i' s s' v w setup caller stays many words loaded h = record {
  caller = caller ∙ h.caller;
  callers = ap (λ (k : Setup). k.callers) setup ∙ h.callers;
  counted = h.counted;
  few = h.few;
  words = words ∙ h.words;
  calm = loaded ∙ h.calm;
  bag = chain_stays Limbo v w (ap (λ (k : Setup). k.records) setup) stays l.bag h.bag;
  whole = h.whole ∙ sym many;
}

-- so where the caller knows the same of all records
pub local_on : (l : Retired) (i i' : Bool) (s s' v w : View) → w.setup ≡ v.setup → w.own.caller ≡ v.own.caller → w.own.mine ≡ v.own.mine
    → length w.own.guard.announced ≡ length v.own.guard.announced → w.own.guard.loaded ≡ v.own.guard.loaded → IsLocal l i s v → IsLocal l i' s' w
local_on l i i' s s' v w setup caller mine words loaded h = local_by l i i' s s' v w setup caller (λ j x known is. ap (λ (m : List (Option Share)). get_or m (j - 1) None) mine ∙ known) (ap (λ (m : List (Option Share)). count_by (is_as is_limbo) m) mine) words loaded h

pub local_same : (l : Retired) (inside : Bool) (s v w : View) → SamePart hazard v w → IsLocal l inside s v → IsLocal l inside s w
local_same l inside s v w same h = let g = same.guard in local_by l inside inside s s v w same.setup same.caller (limbo_away v w same.away)
    (bag_all w.own ∙ bag_away (λ x. true) v w same.away ∙ sym (bag_all v.own))
    (ap (λ (x : Guard). length x.announced) g.guard ∙ ap (λ (x : List ℕ). length x) (kept_on (λ (x : Guard). x.announced) (λ m x step. refl) g.first g.moment v.own.guard g.step))
    (ap (λ (x : Guard). x.loaded) g.guard ∙ kept_on (λ (x : Guard). x.loaded) (λ m x step. refl) g.first g.moment v.own.guard g.step) h

-- one record more that became its own changes nothing
pub local_born : (l : Retired) (inside : Bool) (s v : View) → IsLocal l inside s v → IsLocal l inside s (born v)
local_born l inside s v h = local_on l inside inside s s v (born v) refl refl refl refl refl h
