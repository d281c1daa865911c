-- For which list of records a chain stands.
use Rattle.std.specs.Prelude.{◌≡◌, ◌≢◌, ℕ, zero, suc, Option, Some, None, List, [], ◌∷◌, length, All}
use Rattle.std.specs.List.{AllPairs}
use Rattle.row_words.specs.Refs.{RefParts, IsRef}
use Rattle.row_words.specs.Rows.{Row}
use Rattle.row_words.specs.declared.links.Chain.{Chain}

-- at most this many records, from the head on along the chain words
abbrev pub along : (RefParts → Row) → ℕ → Option RefParts → List RefParts
along rows zero head = []
along rows (suc n) None = []
along rows (suc n) (Some r) = r ∷ along rows n (rows r).next

-- the records of a chain, the first one first
abbrev pub refs_of : (RefParts → Row) → Chain → List RefParts
refs_of rows chain = along rows chain.count chain.head

-- from the head on, the chain words lead to just these records in this order, and end
abbrev pub Leads : (RefParts → Row) → Option RefParts → List RefParts → Type 0
Leads rows head [] = head ≡ None
Leads rows head (r ∷ rs) = (head ≡ Some r) × Leads rows (rows r).next rs

-- the record is none of these
abbrev pub IsApart : RefParts → List RefParts → Type 0
IsApart r refs = All (λ q. q.index ≢ r.index) refs

-- the chain is a list of these records, which differ, and whose chain words the caller owns
pub record IsList (owns : RefParts → Type 0) (rows : RefParts → Row) (chain : Chain) (refs : List RefParts) : Type 0 where
  pub leads : Leads rows chain.head refs
  pub count : chain.count ≡ length refs
  pub distinct : AllPairs (λ a b. a.index ≢ b.index) refs
  pub in_range : All IsRef refs
  pub owned : All owns refs

-- the chain is a list of its records
abbrev pub IsChain : (RefParts → Type 0) → (RefParts → Row) → Chain → Type 0
IsChain owns rows chain = IsList owns rows chain (refs_of rows chain)

-- the chain still is a list, of the same records
pub record IsKept (owns : RefParts → Type 0) (old new : RefParts → Row) (chain : Chain) : Type 0 where
  pub refs : refs_of new chain ≡ refs_of old chain
  pub list : IsChain owns new chain
