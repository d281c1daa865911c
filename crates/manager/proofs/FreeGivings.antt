-- What giving free records leaves of a caller.
use Rattle.std.proofs.Common.{◌≡◌, ◌+◌, ◌++◌, Bool, refl, ap, ◌∙◌}
use Rattle.record_memory.specs.declared.books.Moves.{Moves}
use Rattle.record_memory.specs.declared.books.Setup.{Setup}
use Rattle.record_memory.specs.declared.books.View.{View}
use Rattle.record_memory.specs.declared.books.Standing.TheVariants.{Free, Spare}
use Rattle.row_words.specs.declared.links.Chain.{Chain}
use Rattle.record_rule.specs.Facts.{CoverFacts}
use Rattle.record_rule.specs.Kinds.{idle}
use Rattle.record_rule.proofs.Makes.{makes_start, makes_then}
use Rattle.record_table.specs.declared.passes.Pass.{Pass}
use Rattle.record_table.specs.Handles.{view, IsSamePass}
use Rattle.reclaim_api.specs.Chained.{IsChainOf}
use Rattle.reclaim_api.specs.Guarding.{IsInside, Enters}
use Rattle.reclaim_api.specs.Frames.{LeavesRest}
use Rattle.reclaim_api.proofs.Kept.{chain_stays, spare_rest, own_rest}
use Rattle.record_pieces.specs.Hands.{in_hand}
use Rattle.record_pieces.proofs.Hands.{hand_rest}
use Rattle.manager.specs.declared.types.Moved.{Moved}
use Rattle.manager.specs.Callers.{IsWorking, KeepsOwn}
use Rattle.manager.specs.Giving.{GivesFree}
use Rattle.manager.proofs.MoveCounts.{same_moves, counted_still}
use Rattle.manager.proofs.Owns.{owns_stay}
use Rattle.manager.proofs.Stay.{LocalStays, inside_after, chains_after}

-- nothing given, and one giving after another
pub gives_start : (v : View) → GivesFree v v
gives_start v = record { steps = _; made = makes_start v; moves = refl; rest = λ i. refl; away = λ i. refl }

pub gives_then : (u v w : View) → GivesFree u v → GivesFree v w → GivesFree u w
gives_then u v w a b = record {
  steps = a.steps ++ b.steps;
  made = makes_then u v w a.steps b.steps a.made b.made;
  moves = b.moves ∙ a.moves;
  rest = λ i. b.rest i ∙ a.rest i;
  away = λ i. b.away i ∙ a.away i;
}

-- the rest is left after the one and then the other
pub rest_then : (u v w : View) → LeavesRest u v → LeavesRest v w → LeavesRest u w
rest_then u v w a b = record {
  rest = λ i. b.rest i ∙ a.rest i;
  moves = ap (λ (m : Moves). record m { freed = u.own.moves.freed }) b.moves ∙ a.moves;
  answered = b.answered ∙ a.answered;
  locks = b.locks ∙ a.locks;
  front = b.front ∙ a.front;
}

module _ (v w : View) (gives : GivesFree v w) where
  pub gives_rest : LeavesRest v w
  gives_rest = record {
    rest = gives.rest;
    moves = ap (λ (m : Moves). record m { freed = v.own.moves.freed }) gives.moves;
    answered = ap (λ (x : View). x.own.answered) gives.made.rest;
    locks = ap (λ (x : View). x.own.locks) gives.made.rest;
    front = ap (λ (x : View). x.front) gives.made.rest;
  }

  pub gives_owns : w.setup.records ≡ v.setup.records → KeepsOwn v w
  gives_owns records = owns_stay v w records (own_rest v w gives.rest)

  pub gives_hand : in_hand w.own ≡ in_hand v.own
  gives_hand = hand_rest v w gives_rest

-- a pass that entered is inside still
pub enters_on : {S R : Type 0} (p q r : Pass S R) → Enters p q → IsSamePass q r → IsInside r → Enters p r
enters_on p q r e same inside = record {
  same = record { table = same.table ∙ e.same.table; seat = same.seat ∙ e.same.seat; caller = same.caller ∙ e.same.caller; setup = same.setup ∙ e.same.setup; present = same.present ∙ e.same.present; others = same.others ∙ e.same.others };
  began = ap (λ x. x.value.me.0) same.since ∙ e.began;
  entered = inside;
}

-- its caller works as before, with another free chain
pub gives_works : {S R L : Type 0} {c : CoverFacts} (is_local : L → Bool → View → View → Type 0) (p q : Pass S R) (l : L) (free spare free' : Chain) (n : Moved) → IsSamePass p q → LocalStays c is_local → GivesFree (view p) (view q)
    → IsWorking is_local (record { pass = p; local = l; free = free; spare = spare; moved = n }) → IsChainOf Free (view q) free' → idle (view q).own ≡ free'.count + spare.count → IsWorking is_local (record { pass = q; local = l; free = free'; spare = spare; moved = n })
gives_works is_local p q l free spare free' n same stays gives h list all = record {
  inside = inside_after p q same gives.steps gives.made h.inside;
  chains = chains_after p q same gives.steps gives.made is_local l free spare free' spare stays h.chains (ap (λ (m : Moves). m.births) gives.moves) gives.away list
      (chain_stays Spare (view p) (view q) (ap (λ (k : Setup). k.records) same.setup) (spare_rest (view p) (view q) gives.rest) spare h.chains.spares)
      all;
  counts = counted_still (view p) (view q) n gives.away (same_moves (view p).own.moves (view q).own.moves gives.moves) h.counts;
}
