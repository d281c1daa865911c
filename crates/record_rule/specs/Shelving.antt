-- The two steps on a shelf of the pool: a swap that takes its chain of free records, and an exchange that puts one there.
use Rattle.std.specs.Prelude.{◌≡◌, ◌≢◌, ℕ, ◌+◌, ◌⊎◌, List, [], ◌∷◌, length, All, AllPairs, Option, Some, None}
use Rattle.record_memory.specs.declared.steps.Word.TheVariants.{Shelf}
use Rattle.record_memory.specs.declared.steps.StepKind.{StepKind}
use Rattle.record_memory.specs.declared.steps.StepKind.TheVariants.{Swap, Exchange}
use Rattle.record_memory.specs.declared.steps.Step.{Step}
use Rattle.record_memory.specs.declared.books.View.{View}
use Rattle.record_memory.specs.declared.books.Share.{Share}
use Rattle.record_memory.specs.declared.books.Standing.TheVariants.{Free}
use Rattle.row_words.specs.Refs.{RefParts, IsRef}
use Rattle.row_words.specs.Packing.{packed_ref}
use Rattle.record_rule.specs.Kinds.{share_in, idle, advanced, made_step}
use Rattle.record_rule.specs.ChainRows.{row_in, OwnsChain}

-- a step on shelf k
abbrev pub shelf_step : View → StepKind → ℕ → ℕ → ℕ → Step
shelf_step v kind k found left = record { kind = kind; word = Shelf k; held = None; found = found; left = left; idle = idle v.own }

-- the caller has the record as free, at this generation, and knows its first three words
pub record IsSparable (v : View) (r : RefParts) : Type 0 where
  pub owns : OwnsChain v r
  pub free : owns.share.standing ≡ Free
  pub three : length owns.share.words ≡ 3

-- from the head on, the chain words of this caller's records lead to just these in this order, and end
abbrev pub LeadsIn : View → Option RefParts → List RefParts → Type 0
LeadsIn v head [] = head ≡ None
LeadsIn v head (r ∷ rs) = (head ≡ Some r) × LeadsIn v (row_in v r).next rs

-- a chain of 32 free records of this caller
pub record HasFreeChain (v : View) (head : RefParts) (refs : List RefParts) : Type 0 where
  pub leads : LeadsIn v (Some head) refs
  pub many : length refs ≡ 32
  pub distinct : AllPairs (λ a b. a.index ≢ b.index) refs
  pub free : All (IsSparable v) refs

-- of the records that aren't in this list the caller knows what it did
abbrev pub KeepsBut : List RefParts → View → View → Type 0
KeepsBut refs v w = (i : ℕ) → All (λ (r : RefParts). r.index ≢ i) refs → share_in w i ≡ share_in v i

-- a swap of shelf k for 0 that found the reference of the first record of a chain: its records are the caller's, as free ones, and the caller had none of them
pub record TookChain (v : View) (k : ℕ) (head : RefParts) (w : View) : Type 0 where
  pub refs : List RefParts
  pub chain : HasFreeChain w head refs
  pub had : All (λ (r : RefParts). share_in v r.index ≡ None) refs
  pub others : KeepsBut refs v w
  pub more : idle w.own ≡ idle v.own + 32
  -- nothing else that it knows changes
  pub mine : List (Option Share)
  pub view : w ≡ advanced v (shelf_step v Swap k (packed_ref (Some head)) 0) mine

-- what a swap tells that found n: nothing, or a chain
abbrev pub ToldTake : View → ℕ → ℕ → View → Type 0
ToldTake v k n w = ((n ≡ 0) × (w ≡ made_step v (shelf_step v Swap k 0 0))) ⊎ ((head : RefParts) × IsRef head × (n ≡ packed_ref (Some head)) × TookChain v k head w)

-- an exchange of shelf k from 0 to the reference of the first record of a chain of the caller's: its records are the caller's no more
pub record GaveChain (v : View) (k : ℕ) (head : RefParts) (refs : List RefParts) (w : View) : Type 0 where
  pub gone : All (λ (r : RefParts). share_in w r.index ≡ None) refs
  pub others : KeepsBut refs v w
  pub less : idle w.own + 32 ≡ idle v.own
  -- nothing else that it knows changes
  pub mine : List (Option Share)
  pub view : w ≡ advanced v (shelf_step v Exchange k 0 (packed_ref (Some head))) mine

-- what an exchange tells that found n
pub record ToldGive (v : View) (k : ℕ) (head : RefParts) (refs : List RefParts) (n : ℕ) (w : View) : Type 0 where
  pub gave : n ≡ 0 → GaveChain v k head refs w
  pub refused : n ≢ 0 → w ≡ made_step v (shelf_step v Exchange k n n)
