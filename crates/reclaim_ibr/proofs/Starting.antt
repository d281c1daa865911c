-- The local part of a caller that made no step.
use Rattle.std.proofs.Common.{◌≡◌, ◌<◌, ◌≤◌, [], ℕ, length, true, false, None, sym, ap, ◌∙◌, arith}
use Rattle.std.specs.Prelude.{◌%◌}
use Rattle.record_memory.specs.declared.books.Guard.{Guard}
use Rattle.record_memory.specs.declared.books.Moves.{Moves}
use Rattle.record_memory.specs.declared.books.View.{View}
use Rattle.record_memory.specs.declared.books.Standing.TheVariants.{Limbo}
use Rattle.limbo_bags.proofs.Chains.{chain_empty}
use Rattle.row_words.specs.declared.links.Chain.{Chain}
use Rattle.record_rule.specs.ChainRows.{row_in}
use Rattle.record_rule.specs.Opening.{no_moves}
use Rattle.guard_facts.specs.Announcing.{word_of, reading}
use Rattle.ibr_facts.specs.Keeping.{ibr}
use Rattle.reclaim_api.specs.Chained.{IsAs}
use Rattle.reclaim_api.specs.Locals.{HasNoneAway}
use Rattle.reclaim_api.proofs.Bagged.{bag_all, bag_away}
use Rattle.reclaim_ibr.specs.LocalParts.{EACH, IsLocal}

module _ (caller callers : ℕ) (bag : Chain) (s v : View) (caller_is : v.own.caller ≡ caller) (callers_is : v.setup.callers ≡ callers) (counted : caller < callers) (few : callers ≤ 64) (head : bag.head ≡ None) (count : bag.count ≡ 0)
    (guard : v.own.guard ≡ ibr.first) (moves : v.own.moves ≡ no_moves) (none : HasNoneAway v) where
  -- its first reading is 1
  reads : reading v.own.guard 0 ≡ 1
  reads = ap (λ (g : Guard). reading g 0) guard

  pub starts_local : IsLocal (record { caller = caller; callers = callers; upper = 0; births = 0; retired = 0; bag = bag }) false s v
  starts_local = record {
    caller = caller_is;
    callers = callers_is;
    counted = counted;
    few = few;
    words = ap (λ (g : Guard). length g.announced) guard;
    calm = ap (λ (g : Guard). g.loaded) guard;
    settled = ap (λ (g : Guard). g.pending) guard;
    upper = ap (λ (g : Guard). word_of g 1) guard;
    first = let r = reads in omega arith;
    limit = let r = reads in omega arith;
    births = ap (λ (m : Moves). m.births % EACH) (sym moves);
    retired = ap (λ (m : Moves). m.retired % EACH) (sym moves);
    bag = record { list = (chain_empty (IsAs Limbo v) (row_in v) bag head count).1 };
    whole = count ∙ sym (bag_all v.own ∙ bag_away (λ x. true) (record v { own = record v.own { mine = [] } }) v none);
    guarded = ap (λ (g : Guard). word_of g 0) guard;
  }
