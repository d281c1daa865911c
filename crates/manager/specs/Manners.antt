-- What a reclaimer, an allocator and a pool say of their steps, as one manner.
use Rattle.std.specs.Prelude.{◌≡◌, ℕ, List, Bool, true, false}
use Rattle.record_memory.specs.declared.steps.Step.{Step}
use Rattle.record_memory.specs.declared.books.Setup.{Setup}
use Rattle.record_memory.specs.declared.books.Book.{Book}
use Rattle.record_memory.specs.declared.books.View.{View}
use Rattle.row_words.specs.Refs.{RefParts}
use Rattle.row_words.specs.declared.links.Chain.{Chain}
use Rattle.pool.specs.Calls.{IsFull, Takes, Gives}
use Rattle.pool.specs.declared.Taken.TheVariants.{Some as Took, None as FoundNone}
use Rattle.pool.specs.declared.Given.TheVariants.{Done, Kept}
use Rattle.row_words.specs.declared.links.Freed.{Freed}
use Rattle.record_table.specs.declared.nodes.Node.{Node}
use Rattle.reclaim_api.specs.declared.holding.Holding.{Holding}
use Rattle.record_pieces.specs.Manners.{Manner}

-- two views with these books
pub record AreOf (k : Setup) (b c : Book) (v w : View) : Type 0 where
  pub setup : v.setup ≡ k
  pub before : v.own ≡ b
  pub after : w.own ≡ c

-- an allocator's and a pool's relations on views, on books
abbrev pub draws_by : (View → RefParts → View → Type 0) → Setup → Book → RefParts → Book → Type 0
draws_by draws k b r c = (v : View) × (w : View) × AreOf k b c v w × draws v r w

abbrev pub refuses_by : (View → ℕ → View → Type 0) → Setup → Book → ℕ → Book → Type 0
refuses_by refuses k b n c = (v : View) × (w : View) × AreOf k b c v w × refuses v n w

abbrev pub takes_by : ℕ → (List Step → Type 0) → Setup → Book → Bool → Book → Type 0
takes_by shelves busy k b true c = (v : View) × (w : View) × AreOf k b c v w × ((chain : Chain) × Takes shelves busy v w (Took chain))
takes_by shelves busy k b false c = (v : View) × (w : View) × AreOf k b c v w × Takes shelves busy v w FoundNone

abbrev pub gives_by : ℕ → (List Step → Type 0) → Setup → Book → Bool → Book → Type 0
gives_by shelves busy k b true c = (v : View) × (w : View) × AreOf k b c v w × ((chain : Chain) × IsFull v chain × Gives shelves busy v w chain Done)
gives_by shelves busy k b false c = (v : View) × (w : View) × AreOf k b c v w × ((chain : Chain) × IsFull v chain × Gives shelves busy v w chain (Kept chain))

-- the manner of the three, by the relations that they state
abbrev pub manner : (Setup → Book → Freed → Book → Type 0) → (Setup → Book → Book → Type 0) → (Setup → Book → ℕ → Book → Type 0) → (Setup → ℕ → Node → ℕ → Book → Holding → Book → Type 0) → (Setup → Book → RefParts → Freed → Book → Type 0)
    → (View → RefParts → View → Type 0) → (View → ℕ → View → Type 0) → ℕ → (List Step → Type 0) → Manner
manner enters leaves bears reaches puts_away draws refuses shelves busy = record {
  enters = enters;
  leaves = leaves;
  bears = bears;
  reaches = reaches;
  puts_away = puts_away;
  draws = draws_by draws;
  refuses = refuses_by refuses;
  shelves = shelves;
  takes = takes_by shelves busy;
  gives = gives_by shelves busy;
}
