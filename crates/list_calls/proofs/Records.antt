-- A record that a call has from an earlier try, or gets.
use Rattle.std.proofs.Common.{◌≡◌, List, [], ◌∷◌, Option, Some, None, Result, Ok, Err, MatchResult, sym, subst}
use Rattle.row_words.specs.Refs.{RefParts}
use Rattle.alloc_api.specs.declared.NoRecord.{NoRecord}
use Rattle.reclaim_api.specs.declared.scheme.Scheme.{Ghosts as OfScheme}
use Rattle.alloc_api.specs.declared.Allocator.{Ghosts as OfAllocator}
use Rattle.pool.specs.declared.Pool.{Ghosts as OfPool}
use Rattle.record_pieces.specs.Events.{Event, took, refused}
use Rattle.manager.specs.declared.types.Guard.{Guard}
use Rattle.manager.specs.Guards.{Did, DidAll}
use Rattle.set_calls.proofs.Going.{did_one}
use Rattle.list_calls.specs.Records.{HasRecord, gets, has}

-- a record that the call has from an earlier try
pub has_own : (own : RefParts) (hand : Option RefParts) → hand ≡ Some own → HasRecord own hand []
has_own own hand is = subst (λ (h : Option RefParts). HasRecord own h []) (sym is) has

module _ {S R L A P : Type 0} {r : OfScheme R L} {a : OfAllocator A} {p : OfPool P} where
  -- or a fresh one, or none
  pub took_one : (f h : Guard S R A P L r a p) (hand : Option RefParts) (got : Result RefParts NoRecord) → hand ≡ None → MatchResult got (λ own. Did f (took own) h) (λ none. Did f (refused none.found) h)
      → MatchResult got (λ own. (es : List Event) × HasRecord own hand es × DidAll f es h) (λ none. (hand ≡ None) × Did f (refused none.found) h)
  took_one f h hand (Ok own) is did = (took own ∷ [], subst (λ (k : Option RefParts). HasRecord own k (took own ∷ [])) (sym is) gets, did_one f h (took own) did)
  took_one f h hand (Err none) is did = (is, did)
