-- A store in an own announcement word, by where that lies.
use Rattle.std.proofs.Common.{◌≡◌, ◌+◌, ◌*◌, ◌<◌, ℕ, length, length-set, Bool, ap, ◌∙◌}
use Rattle.record_memory.specs.Memory.{word_at}
use Rattle.record_memory.specs.declared.books.View.{View}
use Rattle.record_rule.specs.ControlSteps.{StoredControl}
use Rattle.hazard_facts.specs.Pointers.{hazard}
use Rattle.reclaim_api.proofs.Words.{own_stored}
use Rattle.reclaim_hazard.specs.declared.retired.Retired.{Retired}
use Rattle.reclaim_hazard.specs.LocalParts.{IsLocal}
use Rattle.reclaim_hazard.specs.LocalStays.{local_on}
use Rattle.reclaim_hazard.specs.Steps.{stored_own}

pub stored_is : (v w : View) (word place value : ℕ) → word ≡ 20 + (4 * v.own.caller + place) → v.own.caller < v.setup.callers → place < 4 → (found : ℕ) × StoredControl hazard v (word_at v.setup.callers word) value found w → (found : ℕ) × (w ≡ stored_own v place value found)
stored_is v w word place value is lt low told = let s = own_stored hazard v w word place value is lt low told in (s.0, s.1.view)

-- the local part is the caller's still
pub local_stored : (l : Retired) (i i' : Bool) (s s' v w : View) (place value found : ℕ) → w ≡ stored_own v place value found → IsLocal l i s v → IsLocal l i' s' w
local_stored l i i' s s' v w place value found is = local_on l i i' s s' v w (ap (λ (x : View). x.setup) is) (ap (λ (x : View). x.own.caller) is) (ap (λ (x : View). x.own.mine) is)
    (ap (λ (x : View). length x.own.guard.announced) is ∙ length-set v.own.guard.announced place value) (ap (λ (x : View). x.own.guard.loaded) is)
