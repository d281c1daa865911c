-- How the next record was got, or why there was none.
use Rattle.std.proofs.Common.{◌≡◌, ℕ, ◌+◌, List, Result, Ok, Err, refl, ap, ◌∙◌, true, false}
use Rattle.std.specs.Prelude.{MatchResult}
use Rattle.record_memory.specs.declared.steps.Step.{Step}
use Rattle.record_memory.specs.declared.books.Setup.{Setup}
use Rattle.record_memory.specs.declared.books.Book.{Book}
use Rattle.record_memory.specs.declared.books.Moves.{Moves}
use Rattle.record_memory.specs.declared.books.View.{View}
use Rattle.row_words.specs.Refs.{RefParts}
use Rattle.row_words.specs.declared.links.Chain.{Chain}
use Rattle.alloc_api.specs.declared.NoRecord.{NoRecord}
use Rattle.pool.specs.Calls.{Takes}
use Rattle.pool.specs.declared.Taken.TheVariants.{Some as Took, None as FoundNone}
use Rattle.record_pieces.specs.Manners.{Manner}
use Rattle.record_pieces.specs.Events.{CountsDraw, Gets, from_draw, FindsNone}
use Rattle.record_pieces.proofs.Stock.{none_spare}
use Rattle.record_pieces.proofs.Spares.{none_kept}
use Rattle.record_rule.specs.Kinds.{idle}
use Rattle.record_rule.specs.Standings.{is_free, is_spare}
use Rattle.reclaim_api.specs.Frames.{had}
use Rattle.manager.specs.Manners.{draws_by, refuses_by, takes_by}

module _ (shelves : ℕ) (busy : List Step → Type 0) (k : Setup) (v w : View) (setup : v.setup ≡ k) where
  -- a chain came from the pool
  pub took_some : (chain : Chain) → Takes shelves busy v w (Took chain) → takes_by shelves busy k v.own true w.own
  took_some chain t = (v, w, record { setup = setup; before = refl; after = refl }, (chain, t))

  -- or none
  pub took_none : Takes shelves busy v w FoundNone → takes_by shelves busy k v.own false w.own
  took_none t = (v, w, record { setup = setup; before = refl; after = refl }, t)

-- a draw when there was none
pub drew_next : (m : Manner) (draws : View → RefParts → View → Type 0) (refuses : View → ℕ → View → Type 0) (k : Setup) (b : Book) (u w : View) → u.setup ≡ k
    → ((r : RefParts) → draws_by draws k u.own r w.own → m.draws k u.own r w.own) → ((n : ℕ) → refuses_by refuses k u.own n w.own → m.refuses k u.own n w.own) → m.takes k b false u.own
    → idle b ≡ 0 → had is_free b ≡ 0 → had is_spare w.own ≡ had is_spare b → u.own.moves ≡ b.moves → w.own.moves.births ≡ b.moves.births
    → (o : Result RefParts NoRecord) → MatchResult o (λ r. draws u r w) (λ none. refuses u none.found w) → MatchResult o (λ _. CountsDraw u.own w.own) (λ _. w.own.moves ≡ u.own.moves)
    → MatchResult o (λ r. Gets m k b r w.own) (λ none. FindsNone m k b none.found w.own)
drew_next m draws refuses k b u w setup some gone none empty free spare as_before births (Ok r) d drawn = from_draw u.own w.own free none (some r (u, w, record { setup = setup; before = refl; after = refl }, d)) (record { drawn = drawn.drawn ∙ ap (λ (m : Moves). m.drawn + 1) as_before; reused = drawn.reused ∙ ap (λ (m : Moves). m.reused) as_before })
drew_next m draws refuses k b u w setup some gone none empty free spare as_before births (Err e) d drawn = record {
  idle_is = empty;
  between = u.own;
  took = none;
  refused = gone e.found (u, w, record { setup = setup; before = refl; after = refl }, d);
  stock = let moves = drawn ∙ as_before in record { spare = spare; kept = none_kept b w.own (none_spare b empty); drawn = ap (λ (m : Moves). m.drawn) moves; reused = ap (λ (m : Moves). m.reused) moves; births = births };
}
