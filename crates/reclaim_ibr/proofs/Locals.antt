-- The local part stays the caller's over a load and a try of the epoch, over a birth, and once the lower end is cleared.
use Rattle.std.proofs.Common.{◌≡◌, ℕ, ◌+◌, length-set, get_or-set_same, get_or-set_other, Bool, false, sym, refl, ap, ◌∙◌, subst, arith}
use Rattle.std.specs.Prelude.{◌%◌}
use Rattle.record_memory.specs.declared.steps.Step.{Step}
use Rattle.record_memory.specs.declared.books.View.{View}
use Rattle.record_memory.specs.declared.books.Standing.TheVariants.{Limbo}
use Rattle.record_rule.specs.Kinds.{made_step}
use Rattle.record_table.specs.declared.passes.Pass.{Pass}
use Rattle.record_table.specs.Handles.{view, since, is_inside, IsSamePass}
use Rattle.reclaim_api.specs.Locals.{IsLocalOf, born}
use Rattle.reclaim_api.proofs.Kept.{chain_stays}
use Rattle.reclaim_ibr.specs.declared.interval.Interval.{Interval}
use Rattle.reclaim_ibr.specs.LocalParts.{EACH, IsLocal}
use Rattle.reclaim_ibr.specs.LocalStays.{local_settled, local_on, guarded_by}
use Rattle.reclaim_ibr.specs.Steps.{epoch_read, HasRead, lower_cleared}

-- a pass is inside as before, and its guard began when it did
pub local_pass : {S R : Type 0} (l : Interval) (p q : Pass S R) → IsSamePass p q → IsLocal l (is_inside p) (since p) (view q) → IsLocalOf IsLocal l q
local_pass l p q same h = subst (λ (x : Bool × View). IsLocal l x.0 x.1 (view q)) (λ k. (sym (ap (λ x. x.value) same.inside) k, sym (ap (λ x. x.value.me.0) same.since) k)) h

-- the epoch was loaded
pub local_read : (l : Interval) (i : Bool) (s v w : View) (e : ℕ) → HasRead v e w → IsLocal l i s v → IsLocal l i s w
local_read l i s v w e read h = let u : View = epoch_read v e read.taken_out in subst (IsLocal l i s) (sym read.view)
    (local_on l l.upper i i s s v u refl refl refl refl record { words = h.words; calm = h.calm; settled = h.settled; upper = h.upper; first = (let a = h.first in let b = read.rise in omega arith); limit = read.limit } (guarded_by i s v u refl refl h.guarded) h)

-- a step of which nothing else is known
pub local_made : (l : Interval) (i : Bool) (s v w : View) (t : Step) → w ≡ made_step v t → IsLocal l i s v → IsLocal l i s w
local_made l i s v w t is h = subst (IsLocal l i s) (sym is) (local_on l l.upper i i s s v (made_step v t) refl refl refl refl (local_settled l i s v h) (guarded_by i s v (made_step v t) refl refl h.guarded) h)

-- one more record is the caller's own
pub local_born : (l : Interval) (i : Bool) (s v : View) → IsLocal l i s v → IsLocal (record l { births = (l.births + 1) % EACH }) i s (born v)
local_born l i s v h = record {
  caller = h.caller;
  callers = h.callers;
  counted = h.counted;
  few = h.few;
  words = h.words;
  calm = h.calm;
  settled = h.settled;
  upper = h.upper;
  first = h.first;
  limit = h.limit;
  births = let b = h.births in omega arith;
  retired = h.retired;
  bag = chain_stays Limbo v (born v) refl (λ k x known is. known) l.bag h.bag;
  whole = h.whole;
  guarded = guarded_by i s v (born v) refl refl h.guarded;
}

-- there is no lower end any more
pub local_cleared : (l : Interval) (i : Bool) (s t v w : View) (found : ℕ) → w ≡ lower_cleared v found → IsLocal l i s v → IsLocal l false t w
local_cleared l i s t v w found is h = let u : View = lower_cleared v found in let four = h.words in subst (IsLocal l false t) (sym is)
    (local_on l l.upper i false s t v u refl refl refl refl record {
      words = length-set v.own.guard.announced 0 0 ∙ h.words;
      calm = h.calm;
      settled = refl;
      upper = get_or-set_other v.own.guard.announced 0 1 0 0 (λ e. omega arith) ∙ h.upper;
      first = h.first;
      limit = h.limit;
    } (get_or-set_same v.own.guard.announced 0 0 0 (omega arith)) h)
