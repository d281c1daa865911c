-- A local part depends on the caller's guard, on its records in limbo, and on how many it retired and were born alone.
use Rattle.std.proofs.Common.{◌≡◌, ◌-◌, ◌<◌, ◌≤◌, ℕ, List, [], length, count_by, get_or, Bool, true, false, Option, None, sym, ap, ◌∙◌, subst}
use Rattle.std.specs.Prelude.{◌%◌}
use Rattle.record_memory.specs.declared.books.Guard.{Guard}
use Rattle.record_memory.specs.declared.books.Setup.{Setup}
use Rattle.record_memory.specs.declared.books.Moves.{Moves}
use Rattle.record_memory.specs.declared.books.View.{View}
use Rattle.record_memory.specs.declared.books.Share.{Share}
use Rattle.record_memory.specs.declared.books.Standing.TheVariants.{Limbo}
use Rattle.row_words.specs.declared.links.Chain.{Chain}
use Rattle.record_rule.specs.Standings.{is_limbo}
use Rattle.guard_facts.specs.Announcing.{LAST_EPOCH, word_of, reading}
use Rattle.ibr_facts.specs.Keeping.{ibr}
use Rattle.reclaim_api.specs.Chained.{IsChainOf}
use Rattle.reclaim_api.specs.Frames.{is_as, had, SamePart}
use Rattle.reclaim_api.proofs.Kept.{Stays, chain_stays, limbo_away}
use Rattle.reclaim_api.proofs.Bagged.{bag_all, bag_away}
use Rattle.reclaim_ibr.specs.declared.interval.Interval.{Interval}
use Rattle.reclaim_ibr.specs.LocalParts.{EACH, IsGuarded, IsLocal}

-- what a local part says of its caller's guard, inside an operation and outside
pub record IsSettled (g : Guard) (end : ℕ) : Type 0 where
  pub words : length g.announced ≡ 4
  pub calm : g.loaded ≡ []
  pub settled : g.pending ≡ None
  pub upper : word_of g 1 ≡ end
  pub first : 1 ≤ reading g 0
  pub limit : reading g 0 ≤ LAST_EPOCH

pub local_settled : (l : Interval) (i : Bool) (s v : View) → IsLocal l i s v → IsSettled v.own.guard l.upper
local_settled l i s v h = record { words = h.words; calm = h.calm; settled = h.settled; upper = h.upper; first = h.first; limit = h.limit }

-- it is the caller's where the guard is as the new part says, and the bag has what is in limbo then
pub local_fits : (l : Interval) (upper retired : ℕ) (bag : Chain) (i j : Bool) (s t v w : View) → w.setup ≡ v.setup → w.own.caller ≡ v.own.caller → w.own.moves.births ≡ v.own.moves.births → IsSettled w.own.guard upper → IsGuarded j t w
    → retired ≡ w.own.moves.retired % EACH → IsChainOf Limbo w bag → bag.count ≡ had is_limbo w.own → IsLocal l i s v → IsLocal (record l { upper = upper; retired = retired; bag = bag }) j t w
local_fits l upper retired bag i j s t v w setup caller births guard guarded many list whole h = record {
  caller = caller ∙ h.caller;
  callers = ap (λ (k : Setup). k.callers) setup ∙ h.callers;
  counted = h.counted;
  few = h.few;
  words = guard.words;
  calm = guard.calm;
  settled = guard.settled;
  upper = guard.upper;
  first = guard.first;
  limit = guard.limit;
  births = h.births ∙ ap (λ (n : ℕ). n % EACH) (sym births);
  retired = many;
  bag = list;
  whole = whole;
  guarded = guarded;
}

-- where no record in limbo changes and none comes, with the bag that there is
local_away : (l : Interval) (upper : ℕ) (i j : Bool) (s t v w : View) → w.setup ≡ v.setup → w.own.caller ≡ v.own.caller → Stays Limbo v w → had is_limbo w.own ≡ had is_limbo v.own → w.own.moves.retired ≡ v.own.moves.retired → w.own.moves.births ≡ v.own.moves.births
    → IsSettled w.own.guard upper → IsGuarded j t w → IsLocal l i s v → IsLocal (record l { upper = upper }) j t w
local_away l upper i j s t v w setup caller stays many retired births guard guarded h = local_fits l upper l.retired l.bag i j s t v w setup caller births guard guarded
    (h.retired ∙ ap (λ (n : ℕ). n % EACH) (sym retired)) (chain_stays Limbo v w (ap (λ (k : Setup). k.records) setup) stays l.bag h.bag) (h.whole ∙ sym many) h

-- so where the caller knows the same of all records and made no move of one
pub local_on : (l : Interval) (upper : ℕ) (i j : Bool) (s t v w : View) → w.setup ≡ v.setup → w.own.caller ≡ v.own.caller → w.own.mine ≡ v.own.mine
    → w.own.moves ≡ v.own.moves → IsSettled w.own.guard upper → IsGuarded j t w → IsLocal l i s v → IsLocal (record l { upper = upper }) j t w
local_on l upper i j s t v w setup caller mine moves = local_away l upper i j s t v w setup caller (λ k x known is. ap (λ (m : List (Option Share)). get_or m (k - 1) None) mine ∙ known) (ap (λ (m : List (Option Share)). count_by (is_as is_limbo) m) mine)
    (ap (λ (m : Moves). m.retired) moves) (ap (λ (m : Moves). m.births) moves)

-- whether it is guarded depends on the lower end and on where the guard started
pub guarded_by : (i : Bool) (s v w : View) → word_of w.own.guard 0 ≡ word_of v.own.guard 0 → w.own.guard.start_step ≡ v.own.guard.start_step → IsGuarded i s v → IsGuarded i s w
guarded_by true s v w lower start h = record {
  lower = λ e. h.lower (sym lower ∙ e);
  started = subst (λ (n : ℕ). length s.own.steps < n) (sym start) h.started;
}
guarded_by false s v w lower start h = lower ∙ h

pub local_same : (l : Interval) (inside : Bool) (s v w : View) → SamePart ibr v w → IsLocal l inside s v → IsLocal l inside s w
local_same l inside s v w same h = let guard : w.own.guard ≡ v.own.guard = same.guard.guard in
    local_away l l.upper inside inside s s v w same.setup same.caller (limbo_away v w same.away) (bag_all w.own ∙ bag_away (λ x. true) v w same.away ∙ sym (bag_all v.own)) same.retired same.births
    (subst (λ (g : Guard). IsSettled g l.upper) (sym guard) (local_settled l inside s v h)) (guarded_by inside s v w (ap (λ (g : Guard). word_of g 0) guard) (ap (λ (g : Guard). g.start_step) guard) h.guarded) h
