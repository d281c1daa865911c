-- Stretches of a guard's calls, one after another.
use Rattle.std.proofs.Common.{◌≡◌, ℕ, List, [], ◌∷◌, ◌++◌, refl, ◌∙◌, subst}
use Rattle.record_memory.specs.declared.books.Setup.{Setup}
use Rattle.record_memory.specs.declared.books.Book.{Book}
use Rattle.record_table.specs.Handles.{setup_of, view, same_start, same_then}
use Rattle.record_table.specs.declared.passes.Pass.{Pass}
use Rattle.reclaim_api.specs.Holds.{KeepsSome, KeepsHeld}
use Rattle.reclaim_api.proofs.Keeping.{keeps_less}
use Rattle.reclaim_api.specs.declared.scheme.Scheme.{Ghosts as OfScheme}
use Rattle.alloc_api.specs.declared.Allocator.{Ghosts as OfAllocator}
use Rattle.pool.specs.declared.Pool.{Ghosts as OfPool}
use Rattle.record_pieces.specs.Manners.{Manner}
use Rattle.record_pieces.specs.Events.{Event, Does, begun, ended}
use Rattle.record_pieces.specs.Trails.{Trail}
use Rattle.record_pieces.proofs.Joins.{joins, adds}
use Rattle.manager.specs.declared.types.Guard.{Guard}
use Rattle.manager.specs.Guards.{Did, DidAll, manner_of}
use Rattle.set_calls.specs.Going.{IsSameGuard, GoesOn}

module _ {S R L A P : Type 0} {r : OfScheme R L} {a : OfAllocator A} {p : OfPool P} where
  pub same_guard : (g : Guard S R A P L r a p) → IsSameGuard g g
  same_guard g = record { manager = refl; caller = refl; pass = same_start g.caller.now.pass; locks = refl }

  pub same_guards : (f g h : Guard S R A P L r a p) → IsSameGuard f g → IsSameGuard g h → IsSameGuard f h
  same_guards f g h x y = record {
    manager = y.manager ∙ x.manager;
    caller = y.caller ∙ x.caller;
    pass = same_then f.caller.now.pass g.caller.now.pass h.caller.now.pass x.pass y.pass;
    locks = y.locks ∙ x.locks;
  }

  pub goes_nowhere : (g : Guard S R A P L r a p) → GoesOn g g
  goes_nowhere g = record { same = same_guard g; answers = record { answered = refl; front = refl }; owns = λ own is. is }

  pub goes_then : (f g h : Guard S R A P L r a p) → GoesOn f g → GoesOn g h → GoesOn f h
  goes_then f g h x y = record {
    same = same_guards f g h x.same y.same;
    answers = record { answered = y.answers.answered ∙ x.answers.answered; front = y.answers.front ∙ x.answers.front };
    owns = λ own is. y.owns own (x.owns own is);
  }

  -- one event is a list of them
  pub did_one : (g h : Guard S R A P L r a p) (e : Event) → Did g e h → DidAll g (e ∷ []) h
  did_one g h e did = ((view h.caller.now.pass).own, did, refl)

  -- and so are two lists
  pub did_then : (f g h : Guard S R A P L r a p) (es fs : List Event) → g.manager.now ≡ f.manager.now → DidAll f es g → DidAll g fs h → DidAll f (es ++ fs) h
  did_then f g h es fs same t u = joins (manner_of r a p) (setup_of f.manager.now.table) es fs (view f.caller.now.pass).own (view g.caller.now.pass).own (view h.caller.now.pass).own t
      (subst (λ (k : Setup). Trail (manner_of r a p) k fs (view g.caller.now.pass).own (view h.caller.now.pass).own) (λ k. setup_of (same k).table) u)

-- where all is kept, some is
pub keeps_any : {S R : Type 0} (places : ℕ → Type 0) (words : ℕ → ℕ → Type 0) (p q : Pass S R) → KeepsHeld p q → KeepsSome places words p q
keeps_any places words p q k = keeps_less (λ place. Unit {0}) places (λ place f. Unit {0}) words p q (λ place h. tt) (λ place f h. tt) k

-- A whole operation, from its guard's beginning to its end, of one table, though three guards name it
pub whole : (m : Manner) (k inner last : Setup) (es : List Event) (b c d e : Book) → inner ≡ k → last ≡ k → Does m k begun b c → Trail m inner es c d → Does m last ended d e → Trail m k (begun ∷ es ++ ended ∷ []) b e
whole m k inner last es b c d e same end enter walk leave = (c, enter, adds m k es ended c d e (subst (λ (x : Setup). Trail m x es c d) same walk) (subst (λ (x : Setup). Does m x ended d e) end leave))
