-- The layout of a word: the own generation in bits 63 to 44, and below it a link, a key or a number.
use Rattle.std.specs.Prelude.{◌≡◌, ℕ, ◌+◌, ◌*◌, ◌/◌, ◌%◌, ◌^◌, Option, Some, None, MatchOption, if◌then◌else◌, ◌==◌}
use Rattle.row_words.specs.Refs.{RefParts, LinkParts, IsRef, AreFlags}

-- a reference in 40 bits, its generation above its index; no reference is 0
unfoldable pub packed_ref : Option RefParts → ℕ
packed_ref None = 0
packed_ref (Some r) = r.generation * 2 ^ 20 + r.index

unfoldable pub ref_in : ℕ → Option RefParts
ref_in n = if n == 0 then None else Some (record { index = n % 2 ^ 20; generation = n / 2 ^ 20 })

-- a link: flags of 4 bits above the reference
unfoldable pub packed_link : ℕ → LinkParts → ℕ
packed_link own link = own * 2 ^ 44 + (link.flags * 2 ^ 40 + packed_ref link.target)

unfoldable pub link_in : ℕ → LinkParts
link_in word = record { flags = word / 2 ^ 40 % 2 ^ 4; target = ref_in (word % 2 ^ 40) }

-- a key: a kind of 4 bits above the key's 40
unfoldable pub packed_key : ℕ → ℕ → ℕ → ℕ
packed_key own kind key = own * 2 ^ 44 + (kind * 2 ^ 40 + key)

unfoldable pub kind_in : ℕ → ℕ
kind_in word = word / 2 ^ 40 % 2 ^ 4

unfoldable pub key_in : ℕ → ℕ
key_in word = word % 2 ^ 40

-- a number of 44 bits
unfoldable pub packed_number : ℕ → ℕ → ℕ
packed_number own number = own * 2 ^ 44 + number

unfoldable pub number_in : ℕ → ℕ
number_in word = word % 2 ^ 44

-- the own generation of any word
unfoldable pub own_in : ℕ → ℕ
own_in word = word / 2 ^ 44

-- the ranges of a reference that may be missing
abbrev pub IsTarget : Option RefParts → Type 0
IsTarget target = MatchOption target (Unit {0}) (λ r. IsRef r)

-- the ranges of a link
pub record IsLink (link : LinkParts) : Type 0 where
  pub flags : AreFlags link.flags
  pub target : IsTarget link.target

-- the number of some reference, or of none
pub record IsPackedRef (number : ℕ) : Type 0 where
  pub target : Option RefParts
  pub in_range : IsTarget target
  pub packed : number ≡ packed_ref target

-- the word of some link under some generation
pub record IsPackedLink (word : ℕ) : Type 0 where
  pub own : ℕ
  pub link : LinkParts
  pub in_range : IsLink link
  pub packed : word ≡ packed_link own link
