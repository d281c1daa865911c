-- What keeps a local part its caller's own: the guard's ends, start and holds, and the bag with all records in limbo.
use Rattle.std.proofs.Common.{◌≡◌, ◌%◌, ◌≤◌, ℕ, List, length, get_or, Bool, sym, ap, ◌∙◌, subst, arith}
use Rattle.record_memory.specs.declared.books.Guard.{Guard}
use Rattle.record_memory.specs.declared.books.View.{View}
use Rattle.record_memory.specs.declared.books.Standing.TheVariants.{Limbo}
use Rattle.row_words.specs.declared.links.Chain.{Chain}
use Rattle.record_rule.specs.Standings.{is_limbo}
use Rattle.guard_facts.specs.Announcing.{LAST_EPOCH, reading}
use Rattle.reclaim_api.specs.Chained.{IsChainOf}
use Rattle.reclaim_api.specs.Frames.{had}
use Rattle.reclaim_ibr.specs.declared.interval.Interval.{Interval}
use Rattle.reclaim_ibr.specs.LocalParts.{EACH, IsLocal}
use Rattle.reclaim_ibr.specs.LocalStays.{local_fits, guarded_by}

-- the guard has the same interval and start, no scan is on, and nothing waits; its last reading is an epoch
pub record IsCalm (g h : Guard) : Type 0 where
  pub announced : h.announced ≡ g.announced
  pub start : h.start_step ≡ g.start_step
  pub loaded : h.loaded ≡ g.loaded
  pub pending : h.pending ≡ g.pending
  pub rise : reading g 0 ≤ reading h 0
  pub limit : reading h 0 ≤ LAST_EPOCH

pub calm_same : (l : Interval) (inside : Bool) (s v : View) (h : Guard) → IsLocal l inside s v → h ≡ v.own.guard → IsCalm v.own.guard h
calm_same l inside s v h is e = record {
  announced = ap (λ (x : Guard). x.announced) e;
  start = ap (λ (x : Guard). x.start_step) e;
  loaded = ap (λ (x : Guard). x.loaded) e;
  pending = ap (λ (x : Guard). x.pending) e;
  rise = let a = ap (λ (x : Guard). reading x 0) e in omega arith;
  limit = let a = ap (λ (x : Guard). reading x 0) e in let b = is.limit in omega arith;
}

pub local_by : (l : Interval) (after : Chain) (retired : ℕ) (inside : Bool) (s v w : View) → IsLocal l inside s v → w.setup ≡ v.setup → w.own.caller ≡ v.own.caller → IsCalm v.own.guard w.own.guard → w.own.moves.births ≡ v.own.moves.births
    → retired ≡ w.own.moves.retired % EACH → IsChainOf Limbo w after → after.count ≡ had is_limbo w.own → IsLocal (record l { retired = retired; bag = after }) inside s w
local_by l after retired inside s v w h setup caller calm births many bag whole = local_fits l l.upper retired after inside inside s s v w setup caller births record {
  words = ap (λ (x : List ℕ). length x) calm.announced ∙ h.words;
  calm = calm.loaded ∙ h.calm;
  settled = calm.pending ∙ h.settled;
  upper = ap (λ (x : List ℕ). get_or x 1 0) calm.announced ∙ h.upper;
  first = let a = calm.rise in let b = h.first in omega arith;
  limit = calm.limit;
} (guarded_by inside s v w (ap (λ (x : List ℕ). get_or x 0 0) calm.announced) calm.start h.guarded) many bag whole h

-- the same for a pass whose guard began when this one's did
pub local_since : (l : Interval) (i i' : Bool) (s s' v : View) → i' ≡ i → s' ≡ s → IsLocal l i s v → IsLocal l i' s' v
local_since l i i' s s' v inside since h = subst (λ (x : Bool × View). IsLocal l x.0 x.1 v) (λ k. (sym inside k, sym since k)) h
