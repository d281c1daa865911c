-- A local part depends on the caller's guard and on its records in limbo alone, so not on how many records became its own.
use Rattle.std.proofs.Common.{◌≡◌, ◌<◌, ◌≤◌, ℕ, length, Bool, true, false, Option, sym, refl, ap, ◌∙◌, subst}
use Rattle.record_memory.specs.declared.books.Guard.{Guard}
use Rattle.record_memory.specs.declared.books.Setup.{Setup}
use Rattle.record_memory.specs.declared.books.View.{View}
use Rattle.row_words.specs.Refs.{RefParts}
use Rattle.reclaim_api.specs.Following.{holds_at}
use Rattle.reclaim_api.specs.Frames.{SamePart}
use Rattle.reclaim_api.specs.Locals.{born}
use Rattle.reclaim_api.proofs.Kept.{limbo_away}
use Rattle.reclaim_api.proofs.Bagged.{bag_away}
use Rattle.debra_facts.specs.Debra.{debra}
use Rattle.reclaim_debra.specs.declared.bags.Bags.{Bags}
use Rattle.reclaim_debra.specs.LocalParts.{IsGuarded, IsLocal}
use Rattle.reclaim_debra.specs.Stamped.{bags_stay}

pub guarded_same : (inside : Bool) (s v w : View) → w.setup ≡ v.setup → w.own.caller ≡ v.own.caller → w.own.guard ≡ v.own.guard → IsGuarded inside s v → IsGuarded inside s w
guarded_same true s v w setup caller guard g = record {
  active = ap (λ (x : Guard). x.active) guard ∙ g.active;
  started = subst (λ (x : Guard). length s.own.steps < x.start_step) (sym guard) g.started;
  front = subst (λ (x : Guard). length s.front ≤ x.start_updates) (sym guard) g.front;
  counted = subst (λ (x : Setup × ℕ). x.1 < x.0.callers) (λ k. (sym setup k, sym caller k)) g.counted;
}
guarded_same false s v w setup caller guard g = ap (λ (x : Guard). x.active) guard ∙ g

pub local_same : (l : Bags) (inside : Bool) (s v w : View) → SamePart debra v w → IsLocal l inside s v → IsLocal l inside s w
local_same l inside s v w same h = let guard : w.own.guard ≡ v.own.guard = same.guard.guard in record {
  bags = bags_stay l v w l.place (ap (λ (k : Setup). k.records) same.setup) (limbo_away v w same.away) (λ t. bag_away t v w same.away) (ap (λ (x : Guard). x.readings) guard) (ap (λ (x : Guard). x.scan_place) guard ∙ h.bags.place) h.bags;
  guarded = guarded_same inside s v w same.setup same.caller guard h.guarded;
}

-- one record more that became its own changes nothing
pub local_born : (l : Bags) (inside : Bool) (s v : View) → IsLocal l inside s v → IsLocal l inside s (born v)
local_born l inside s v h = record {
  bags = bags_stay l v (born v) l.place refl (λ i x known is. known) (λ t. refl) refl h.bags.place h.bags;
  guarded = guarded_same inside s v (born v) refl refl refl h.guarded;
}

-- nor does what its guard holds
pub local_holds : (l : Bags) (s v : View) (place : ℕ) (t : Option RefParts) → IsLocal l true s v → IsLocal l true s (holds_at v place t)
local_holds l s v place t h = record {
  bags = bags_stay l v (holds_at v place t) l.place refl (λ i x known is. known) (λ count. refl) refl h.bags.place h.bags;
  guarded = record { active = h.guarded.active; started = h.guarded.started; front = h.guarded.front; counted = h.guarded.counted };
}
