-- What a call of a pool does.
use Rattle.std.specs.Prelude.{◌≡◌, ◌≢◌, ℕ, ◌+◌, ◌*◌, ◌<◌, ◌⊎◌, List, [], ◌∷◌, ◌++◌, length, All, Option, None}
use Rattle.row_words.specs.Refs.{RefParts}
use Rattle.row_words.specs.Packing.{packed_ref}
use Rattle.row_words.specs.declared.links.Chain.{Chain}
use mathlib.Core.Option.{some}
use lib.ListN.{get_elem?}
use Rattle.record_memory.specs.declared.steps.Step.{Step}
use Rattle.record_memory.specs.declared.steps.Word.TheVariants.{Shelf}
use Rattle.record_memory.specs.declared.books.View.{View}
use Rattle.record_memory.specs.declared.books.Standing.TheVariants.{Free}
use Rattle.record_rule.specs.Kinds.{share_in, idle}
use Rattle.record_rule.specs.Makes.{Makes}
use Rattle.reclaim_api.specs.Chained.{IsChainOf, refs_in}
use Rattle.pool.specs.Looks.{Look, looks_in, SwapsLoaded, AreAllEmpty, AreAllTaken, AreFirst}
use Rattle.pool.specs.declared.Taken.{Taken}
use Rattle.pool.specs.declared.Taken.TheVariants.{Some as Took, None as FoundNone}
use Rattle.pool.specs.declared.Given.{Given}
use Rattle.pool.specs.declared.Given.TheVariants.{Done, Kept}

-- the records of a chain on a shelf
abbrev pub CHAIN : ℕ
CHAIN = 32

-- a chain of as many free records of this caller as a shelf has
pub record IsFull (v : View) (chain : Chain) : Type 0 where
  pub count : chain.count ≡ CHAIN
  pub list : IsChainOf Free v chain

-- of the records that aren't in this list the caller knows what it did
abbrev pub StaysBut : List RefParts → View → View → Type 0
StaysBut refs before after = (i : ℕ) → All (λ (r : RefParts). r.index ≢ i) refs → share_in after i ≡ share_in before i

-- the records come to the caller, which had none of them, and are idle
pub record Gains (before after : View) (refs : List RefParts) : Type 0 where
  pub had : All (λ (r : RefParts). share_in before r.index ≡ None) refs
  pub others : StaysBut refs before after
  pub more : idle after.own ≡ idle before.own + length refs

-- the records, which were idle, leave the caller
pub record Loses (before after : View) (refs : List RefParts) : Type 0 where
  pub gone : All (λ (r : RefParts). share_in after r.index ≡ None) refs
  pub others : StaysBut refs before after
  pub less : idle after.own + length refs ≡ idle before.own

-- one of the steps left this value on this shelf
abbrev pub Leaves : List Step → ℕ → ℕ → Type 0
Leaves steps shelf value = (i : ℕ) × (t : Step) × (get_elem? steps i ≡ some t) × (t.word ≡ Shelf shelf) × (t.left ≡ value)

-- only the last look found this
pub record EndsWith (looks : List Look) (P : ℕ → Type 0) : Type 0 where
  pub earlier : List Look
  pub last : Look
  pub all : looks ≡ earlier ++ last ∷ []
  pub here : P last.found
  pub not_before : All (λ (l : Look). ¬ (P l.found)) earlier

-- the last look found a shelf that names this record, the first one of its chain, and the shelf was emptied
pub record IsTaken (head : Option RefParts) (steps : List Step) (looks : List Look) : Type 0 where
  pub ended : EndsWith looks (λ found. found ≢ 0)
  pub named : ended.last.found ≡ packed_ref head
  pub emptied : Leaves steps ended.last.shelf 0

-- the last look found an empty shelf, and the shelf now names this record, the first one of its chain
pub record IsPut (head : Option RefParts) (steps : List Step) (looks : List Look) : Type 0 where
  pub ended : EndsWith looks (λ found. found ≡ 0)
  pub named : Leaves steps ended.last.shelf (packed_ref head)

module _ (shelves : ℕ) (busy : List Step → Type 0) (before after : View) where
  -- what `take` answers, and the steps that it made
  abbrev pub TakesBy : Taken → List Step → Type 0
  TakesBy (Took chain) steps = IsFull after chain × Gains before after (refs_in after chain) × IsTaken chain.head steps (looks_in steps)
  TakesBy FoundNone steps = (after.own.mine ≡ before.own.mine) × (AreAllEmpty shelves (looks_in steps) ⊎ busy steps)

  -- what `give` answers to this chain, and the steps that it made
  abbrev pub GivesBy : Chain → Given → List Step → Type 0
  GivesBy chain Done steps = Loses before after (refs_in before chain) × IsPut chain.head steps (looks_in steps)
  GivesBy chain (Kept back) steps = (back ≡ chain) × (after.own.mine ≡ before.own.mine) × (AreAllTaken shelves (looks_in steps) ⊎ busy steps)

  -- `take` made some steps, at most two for each shelf and among them at most one look at it, and answered by what they found
  pub record Takes (taken : Taken) : Type 0 where
    pub steps : List Step
    pub made : Makes before after steps
    pub few : length steps < 2 * shelves + 1
    -- it swaps no more often than its loads find a chain
    pub loaded : SwapsLoaded steps
    -- it handed no record out, and retired and freed none
    pub moves : after.own.moves ≡ before.own.moves
    pub looks : AreFirst shelves (looks_in steps)
    pub answer : TakesBy taken steps

  -- the same of `give`
  pub record Gives (chain : Chain) (given : Given) : Type 0 where
    pub steps : List Step
    pub made : Makes before after steps
    pub few : length steps < 2 * shelves + 1
    pub moves : after.own.moves ≡ before.own.moves
    pub looks : AreFirst shelves (looks_in steps)
    pub answer : GivesBy chain given steps
