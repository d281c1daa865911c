-- Chains of all records that a caller has in one place.
use Rattle.std.specs.Prelude.{◌≡◌, ℕ, List, length}
use Rattle.record_memory.specs.declared.books.View.{View}
use Rattle.record_memory.specs.declared.books.Standing.{Standing}
use Rattle.record_memory.specs.declared.books.Standing.TheVariants.{Handing, Own, Spare, TakenOut, Limbo, Free, Spent}
use Rattle.row_words.specs.Refs.{RefParts}
use Rattle.row_words.specs.declared.links.Chain.{Chain}
use Rattle.limbo_bags.specs.Chains.{IsChain, refs_of}
use Rattle.record_rule.specs.ChainRows.{row_in, OwnsChain}

-- the records of a chain of this caller, the first one first
abbrev pub refs_in : View → Chain → List RefParts
refs_in v chain = refs_of (row_in v) chain

-- how many words of its row are known
abbrev pub known_words : Standing → ℕ
known_words (Handing n) = 8
known_words Own = 8
known_words Spare = 8
known_words TakenOut = 3
known_words Limbo = 3
known_words Free = 3
known_words Spent = 3

-- the caller has the record so, and owns its chain word
pub record IsAs (standing : Standing) (v : View) (r : RefParts) : Type 0 where
  pub owns : OwnsChain v r
  pub standing_is : owns.share.standing ≡ standing
  pub words : length owns.share.words ≡ known_words standing

-- the chain is a list of records that the caller has so
pub record IsChainOf (standing : Standing) (v : View) (chain : Chain) : Type 0 where
  pub list : IsChain (IsAs standing v) (row_in v) chain
