-- The local part of a caller that made no step.
use Rattle.std.proofs.Common.{◌≡◌, ◌<◌, ◌≤◌, [], length, Bool, true, None, sym, ap, ◌∙◌}
use Rattle.record_memory.specs.declared.books.Guard.{Guard}
use Rattle.record_memory.specs.declared.books.View.{View}
use Rattle.record_memory.specs.declared.books.Standing.TheVariants.{Limbo}
use Rattle.limbo_bags.proofs.Chains.{chain_empty}
use Rattle.record_rule.specs.ChainRows.{row_in}
use Rattle.reclaim_api.specs.Chained.{IsAs}
use Rattle.reclaim_api.specs.Locals.{HasNoneAway}
use Rattle.reclaim_api.proofs.Bagged.{bag_all, bag_away}
use Rattle.hazard_facts.specs.Pointers.{hazard}
use Rattle.reclaim_hazard.specs.declared.retired.Retired.{Retired}
use Rattle.reclaim_hazard.specs.LocalParts.{IsLocal}

pub starts_local : (l : Retired) (inside : Bool) (s v : View) → v.own.caller ≡ l.caller → v.setup.callers ≡ l.callers → l.caller < l.callers → l.callers ≤ 64 → l.bag.head ≡ None → l.bag.count ≡ 0 → v.own.guard ≡ hazard.first → HasNoneAway v → IsLocal l inside s v
starts_local l inside s v caller callers counted few head count guard none = record {
  caller = caller;
  callers = callers;
  counted = counted;
  few = few;
  words = ap (λ (g : Guard). length g.announced) guard;
  calm = ap (λ (g : Guard). g.loaded) guard;
  bag = record { list = (chain_empty (IsAs Limbo v) (row_in v) l.bag head count).1 };
  whole = count ∙ sym (bag_all v.own ∙ bag_away (λ x. true) (record v { own = record v.own { mine = [] } }) v none);
}
