-- Handing a record out: its eight words are stored anew under its generation.
use Rattle.std.specs.Prelude.{◌≡◌, ℕ, zero, suc, ◌≤◌, List, ◌∷◌, length, replicate, Some, slice_index_or}
use Rattle.record_memory.specs.declared.books.View.{View}
use Rattle.record_memory.specs.declared.books.Share.{Share}
use Rattle.record_memory.specs.declared.books.Standing.{Standing}
use Rattle.record_memory.specs.declared.books.Standing.TheVariants.{Handing, Own}
use Rattle.row_words.specs.Refs.{RefParts}
use Rattle.row_words.specs.Packing.{packed_number}
use Rattle.record_rule.specs.Kinds.{stored, share_in}

-- the words of a record that was just handed out, with its birth in word 0
abbrev pub fresh_row : ℕ → ℕ → List ℕ
fresh_row generation birth = packed_number generation birth ∷ replicate 7 (packed_number generation 0)

-- the caller drew the record, or took it from its free chain, and has stored none of its words
pub record HasDrawn (v : View) (r : RefParts) : Type 0 where
  pub within : r.index ≤ v.setup.records
  pub share : Share
  pub known : share_in v r.index ≡ Some share
  pub fresh : share.standing ≡ Handing 0
  pub generation : share.generation ≡ r.generation
  pub eight : length share.words ≡ 8

-- what is known after the first n words of the row are stored
abbrev pub stores_from : View → ℕ → List ℕ → ℕ → View
stores_from v i row zero = v
stores_from v i row (suc n) = stored (stores_from v i row n) i n (slice_index_or row n 0)

-- what is known once the record is handed out: eight steps were made
unfoldable pub handed_out : View → RefParts → ℕ → View
handed_out v r birth = stores_from v r.index (fresh_row r.generation birth) 8

-- the caller has the record so, with this row
pub record HasAs (standing : Standing) (v : View) (r : RefParts) (row : List ℕ) : Type 0 where
  pub within : r.index ≤ v.setup.records
  pub share : Share
  pub known : share_in v r.index ≡ Some share
  pub standing_is : share.standing ≡ standing
  pub generation : share.generation ≡ r.generation
  pub row_is : share.words ≡ row
  pub eight : length row ≡ 8

-- the caller has the record as its own, with this row
abbrev pub HasOwn : View → RefParts → List ℕ → Type 0
HasOwn v r row = HasAs Own v r row

-- the caller has the record as its own
abbrev pub IsOwnOf : View → RefParts → Type 0
IsOwnOf v r = (row : List ℕ) × HasOwn v r row
