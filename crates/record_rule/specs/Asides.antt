-- Setting an own record aside, and taking it again. Each is one step on its chain word.
use Rattle.std.specs.Prelude.{ℕ, ◌-◌, List, Option, Some, None, slice_index_or, slice_set}
use Rattle.record_memory.specs.declared.books.View.{View}
use Rattle.record_memory.specs.declared.books.Share.{Share}
use Rattle.record_memory.specs.declared.books.Standing.TheVariants.{Own, Spare}
use Rattle.row_words.specs.Refs.{RefParts}
use Rattle.row_words.specs.Packing.{packed_link, link_in}
use Rattle.record_rule.specs.Kinds.{advanced, advanced_by, gave_birth, field_store, field_load, share_in}
use Rattle.record_rule.specs.HandingOut.{HasAs}

-- a chain word that leads to this record, under the generation of the record whose word it is
abbrev pub chain_word : ℕ → Option RefParts → ℕ
chain_word generation next = packed_link generation (record { flags = 0; target = next })

-- the record that a row's chain word leads to
abbrev pub next_in : List ℕ → Option RefParts
next_in row = (link_in (slice_index_or row 1 0)).target

abbrev pub put_aside_as : View → ℕ → ℕ → Option Share → View
put_aside_as v i value None = v
put_aside_as v i value (Some h) = advanced v (field_store v i 1 value h) (slice_set v.own.mine (i - 1) (Some (record h { standing = Spare; words = slice_set h.words 1 value })))

-- the store of the chain word of record i, from which on the record is spare
abbrev pub put_aside : View → ℕ → ℕ → View
put_aside v i value = put_aside_as v i value (share_in v i)

abbrev pub took_spare_as : View → ℕ → ℕ → Option Share → View
took_spare_as v i n None = v
took_spare_as v i n (Some h) = advanced_by v (field_load v i 1 n) (slice_set v.own.mine (i - 1) (Some (record h { standing = Own }))) (gave_birth v.own.moves)

-- the load of the chain word of record i, from which on the record is own
abbrev pub took_spare : View → ℕ → ℕ → View
took_spare v i n = took_spare_as v i n (share_in v i)

-- the caller has the record as spare, with this row
abbrev pub HasSpare : View → RefParts → List ℕ → Type 0
HasSpare v r row = HasAs Spare v r row

-- the caller has the record as spare
abbrev pub IsSpareOf : View → RefParts → Type 0
IsSpareOf v r = (row : List ℕ) × HasSpare v r row
