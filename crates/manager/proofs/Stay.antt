-- A caller after a call of its reclaimer, or after steps of its own.
use Rattle.std.proofs.Common.{◌≡◌, ◌+◌, ◌-◌, ◌≤◌, List, ◌++◌, length, length-append, get_or, Bool, None, ap, ◌∙◌, sym, subst, arith}
use Rattle.record_memory.specs.declared.steps.Step.{Step}
use Rattle.record_memory.specs.declared.books.Book.{Book}
use Rattle.record_memory.specs.declared.books.View.{View}
use Rattle.record_memory.specs.declared.books.Setup.{Setup}
use Rattle.record_memory.specs.declared.books.Standing.{Standing}
use Rattle.record_memory.specs.declared.books.Standing.TheVariants.{Free, Spare}
use Rattle.row_words.specs.declared.links.Chain.{Chain}
use Rattle.row_words.specs.declared.links.Freed.{Freed}
use Rattle.record_rule.specs.Facts.{CoverFacts}
use Rattle.record_rule.specs.Kinds.{idle}
use Rattle.record_rule.specs.Makes.{Makes}
use Rattle.record_rule.proofs.Makes.{idle_mine, makes_then}
use Rattle.record_table.specs.declared.passes.Pass.{Pass}
use Rattle.record_table.specs.Handles.{view, since, is_inside, IsSamePass}
use Rattle.reclaim_api.specs.Chained.{IsChainOf}
use Rattle.reclaim_api.specs.Guarding.{IsInside}
use Rattle.reclaim_api.specs.Locals.{IsLocalOf, IsLocalBorn, born}
use Rattle.reclaim_api.specs.Frames.{SamePart, in_away, LeavesRecords, FreesInto}
use Rattle.reclaim_api.specs.Holds.{KeepsHeld}
use Rattle.reclaim_api.proofs.Kept.{Stays, chain_stays, goes_on}
use Rattle.reclaim_api.proofs.Keeping.{keeps_same}
use Rattle.manager.specs.declared.types.Moved.{Moved}
use Rattle.manager.specs.Counted.{AreCounted}
use Rattle.manager.specs.Callers.{HasChains, IsResting, AnswersNone}
use Rattle.manager.proofs.OneShare.{AwayStays}

-- records of which the caller knows the same stay
pub mine_stays : (standing : Standing) (v w : View) → w.own.mine ≡ v.own.mine → Stays standing v w
mine_stays standing v w e i h known is = ap (λ m. get_or m (i - 1) None) e ∙ known

-- its two chains are lists of all its idle records
pub record AreLists (v : View) (free spare : Chain) : Type 0 where
  pub frees : IsChainOf Free v free
  pub spares : IsChainOf Spare v spare
  pub all : idle v.own ≡ free.count + spare.count

-- so after a call that leaves each record
pub lists_stay : (v w : View) (free spare : Chain) → w.setup ≡ v.setup → LeavesRecords v w → AreLists v free spare → AreLists w free spare
lists_stay v w free spare setup rest h = let records = ap (λ (k : Setup). k.records) setup in record {
  frees = chain_stays Free v w records (mine_stays Free v w rest.mine) free h.frees;
  spares = chain_stays Spare v w records (mine_stays Spare v w rest.mine) spare h.spares;
  all = idle_mine v w rest.mine ∙ h.all;
}

-- as a caller has them
pub lists_of : {S R L : Type 0} (is_local : L → Bool → View → View → Type 0) (p : Pass S R) (l : L) (free spare : Chain) → HasChains is_local p l free spare → AreLists (view p) free spare
lists_of is_local p l free spare h = record { frees = h.frees; spares = h.spares; all = h.all }

module _ {S R L : Type 0} (is_local : L → Bool → View → View → Type 0) (p q : Pass S R) (l m : L) (free spare : Chain) (setup : (view q).setup ≡ (view p).setup) (h : HasChains is_local p l free spare) (local : IsLocalOf is_local m q) where
  -- after a call that leaves each record
  pub chains_stay : LeavesRecords (view p) (view q) → HasChains is_local q m free spare
  chains_stay rest = let lists = lists_stay (view p) (view q) free spare setup rest (lists_of is_local p l free spare h) in record { local = local; frees = lists.frees; spares = lists.spares; all = lists.all }

  -- after one that may free records
  pub chains_freed : (freed : Chain) (f : Freed) → IsChainOf Free (view q) freed → FreesInto (view p) free f (view q) freed → Stays Spare (view p) (view q) → HasChains is_local q m freed spare
  chains_freed freed f list into stay = record {
    local = local;
    frees = list;
    spares = chain_stays Spare (view p) (view q) (ap (λ (k : Setup). k.records) setup) stay spare h.spares;
    all = let a = into.idle in let b = into.count in let c = h.all in omega arith;
  }

-- a local part is its caller's by the part of what the pass knows that a reclaimer's is told by
abbrev pub LocalStays : {L : Type 0} → CoverFacts → (L → Bool → View → View → Type 0) → Type 0
LocalStays {L = L} c is_local = (l : L) (inside : Bool) (s v w : View) → SamePart c v w → is_local l inside s v → is_local l inside s w

-- so it is its caller's after steps of the caller's own, where it was by what the pass knew, or would know with one more record its own
pub local_still : {S R L : Type 0} {c : CoverFacts} (is_local : L → Bool → View → View → Type 0) (p q : Pass S R) (l : L) (v : View) → IsSamePass p q → LocalStays c is_local → SamePart c v (view q) → is_local l (is_inside p) (since p) v → IsLocalOf is_local l q
local_still is_local p q l v same stays part h = subst (λ (b : Bool). is_local l b (since q) (view q)) (sym (ap (λ x. x.value) same.inside))
    (subst (λ (s : View). is_local l (is_inside p) s (view q)) (sym (ap (λ x. x.value.me.0) same.since)) (stays l (is_inside p) (since p) v (view q) part h))

-- some steps and then more
pub makes_both : (u v w : View) (s t : List Step) → Makes u v s → Makes v w t → (steps : List Step) × Makes u w steps
makes_both u v w s t a b = (s ++ t, makes_then u v w s t a b)

-- after steps of its own
module _ {S R : Type 0} (p q : Pass S R) (same : IsSamePass p q) (steps : List Step) (made : Makes (view p) (view q) steps) where
  pub inside_after : IsInside p → IsInside q
  inside_after h = record {
    inside = ap (λ x. x.value) same.inside ∙ h.inside;
    later = let e = ap (λ x. length x.value.me.0.own.steps) same.since in let a = h.later in let b = ap length made.appended in let c = length-append (view p).own.steps steps in omega arith;
  }

  no_fewer : length (view p).own.steps ≤ length (view q).own.steps
  no_fewer = omega (arith, ap length made.appended, length-append (view p).own.steps steps)

  -- it holds what it held
  pub keeps_after : KeepsHeld p q
  keeps_after = keeps_same p q (ap (λ x. x.value.me.0) same.since) same.setup (ap (λ (v : View). v.own.guard) made.rest) (ap (λ (v : View). v.own.notes) made.rest) (ap (λ (v : View). v.seen_updates) made.rest)

  -- and answered no call
  pub answers_after : AnswersNone (view p) (view q)
  answers_after = record { answered = ap (λ (v : View). v.own.answered) made.rest; front = ap (λ (v : View). v.front) made.rest }

  -- its chains are what these steps make of them, by which none became its own
  pub chains_after : {L : Type 0} {c : CoverFacts} (is_local : L → Bool → View → View → Type 0) (l : L) (free spare free' spare' : Chain) → LocalStays c is_local → HasChains is_local p l free spare → (view q).own.moves.births ≡ (view p).own.moves.births → AwayStays (view p) (view q)
      → IsChainOf Free (view q) free' → IsChainOf Spare (view q) spare' → idle (view q).own ≡ free'.count + spare'.count → HasChains is_local q l free' spare'
  chains_after {c = c} is_local l free spare free' spare' stays h births limbo frees spares all = record {
    local = local_still is_local p q l (view p) same stays record { setup = same.setup; caller = same.caller; guard = goes_on c (view p) (view q) (ap (λ (v : View). v.own.guard) made.rest); steps = no_fewer; front = omega (arith, ap (λ (v : View). length v.front) made.rest); away = limbo; retired = made.retired; births = births } h.local;
    frees = frees;
    spares = spares;
    all = all;
  }

  -- or by which the one became its own for which a birth was answered
  pub chains_born : {L : Type 0} {c : CoverFacts} (is_local : L → Bool → View → View → Type 0) (l : L) (free' spare' : Chain) → LocalStays c is_local → IsLocalBorn is_local l p → (view q).own.moves.births ≡ (view p).own.moves.births + 1 → AwayStays (view p) (view q)
      → IsChainOf Free (view q) free' → IsChainOf Spare (view q) spare' → idle (view q).own ≡ free'.count + spare'.count → HasChains is_local q l free' spare'
  chains_born {c = c} is_local l free' spare' stays h births limbo frees spares all = record {
    local = local_still is_local p q l (born (view p)) same stays record { setup = same.setup; caller = same.caller; guard = goes_on c (born (view p)) (view q) (ap (λ (v : View). v.own.guard) made.rest); steps = no_fewer; front = omega (arith, ap (λ (v : View). length v.front) made.rest); away = limbo; retired = made.retired; births = births } h;
    frees = frees;
    spares = spares;
    all = all;
  }

-- a caller whose own book stays rests as before
pub rests_still : {S R L : Type 0} {c : CoverFacts} (is_local : L → Bool → View → View → Type 0) (p q : Pass S R) (l : L) (free spare : Chain) (n : Moved) (same : IsSamePass p q) → LocalStays c is_local → (view q).own ≡ (view p).own → length (view p).front ≤ length (view q).front
    → IsResting is_local (record { pass = p; local = l; free = free; spare = spare; moved = n }) → IsResting is_local (record { pass = q; local = l; free = free; spare = spare; moved = n })
rests_still {c = c} is_local p q l free spare n same stays own front h = record {
  outside = ap (λ x. x.value) same.inside ∙ h.outside;
  chains = record {
    local = local_still is_local p q l (view p) same stays record { setup = same.setup; caller = same.caller; guard = goes_on c (view p) (view q) (ap (λ (b : Book). b.guard) own); steps = omega (arith, ap (λ (b : Book). length b.steps) own); front = front; away = λ i. ap (λ (b : Book). in_away (get_or b.mine i None)) own; retired = ap (λ (b : Book). b.moves.retired) own; births = ap (λ (b : Book). b.moves.births) own } h.chains.local;
    frees = chain_stays Free (view p) (view q) (ap (λ (k : Setup). k.records) same.setup) (mine_stays Free (view p) (view q) (ap (λ (b : Book). b.mine) own)) free h.chains.frees;
    spares = chain_stays Spare (view p) (view q) (ap (λ (k : Setup). k.records) same.setup) (mine_stays Spare (view p) (view q) (ap (λ (b : Book). b.mine) own)) spare h.chains.spares;
    all = ap (λ (b : Book). idle b) own ∙ h.chains.all;
  };
  counts = subst (AreCounted n) (sym own) h.counts;
  unlocked = ap (λ (b : Book). b.locks) own ∙ h.unlocked;
}
