-- The chain words of the records that a caller has, and what steps on them leave.
use Rattle.std.specs.Prelude.{◌≡◌, ℕ, zero, suc, ◌<◌, ◌≤◌, ◌⊎◌, List, [], ◌++◌, length, map, All, Option, Some, None, slice_index_or, slice_set}
use Rattle.record_memory.specs.declared.steps.Word.TheVariants.{Field}
use Rattle.record_memory.specs.declared.steps.StepKind.TheVariants.{Load, Store}
use Rattle.record_memory.specs.declared.steps.Step.{Step}
use Rattle.record_memory.specs.declared.books.View.{View}
use Rattle.record_memory.specs.declared.books.Share.{Share}
use Rattle.record_memory.specs.declared.books.Standing.{Standing}
use Rattle.record_memory.specs.declared.books.Standing.TheVariants.{Handing, Own, Spare, TakenOut, Limbo, Free, Spent}
use Rattle.record_memory.specs.declared.books.Drawing.TheVariants.{Unsure}
use Rattle.row_words.specs.Refs.{RefParts, IsRef}
use Rattle.row_words.specs.Packing.{number_in}
use Rattle.row_words.specs.Rows.{Row}
use Rattle.record_rule.specs.Kinds.{share_in, idle}
use Rattle.record_rule.specs.Asides.{next_in}

-- the first three words of a row
abbrev pub row_with : List ℕ → Row
row_with words = record { next = next_in words; birth = number_in (slice_index_or words 0 0); stamp = number_in (slice_index_or words 2 0) }

abbrev pub row_of_share : Option Share → Row
row_of_share None = row_with []
row_of_share (Some h) = row_with h.words

-- what the caller knows of the record with this index; none has index 0
abbrev pub share_with : View → ℕ → Option Share
share_with v zero = None
share_with v (suc k) = share_in v (suc k)

-- what stands in the row of a record that the caller has
abbrev pub row_in : View → RefParts → Row
row_in v r = row_of_share (share_with v r.index)

-- how a caller has the records that may stand in its chains
abbrev pub IsChained : Standing → Type 0
IsChained (Handing n) = ⊥
IsChained Own = Unit {0}
IsChained Spare = Unit {0}
IsChained TakenOut = ⊥
IsChained Limbo = Unit {0}
IsChained Free = Unit {0}
IsChained Spent = Unit {0}

-- the record is own, spare, in limbo, free or spent of the caller, at this generation
pub record OwnsChain (v : View) (r : RefParts) : Type 0 where
  pub is_ref : IsRef r
  pub within : r.index ≤ v.setup.records
  pub share : Share
  pub known : share_in v r.index ≡ Some share
  pub chained : IsChained share.standing
  pub generation : share.generation ≡ r.generation
  pub long : 2 < length share.words

-- the record is free of the caller, at this generation
pub record IsFree (v : View) (r : RefParts) : Type 0 where
  pub owns : OwnsChain v r
  pub free : owns.share.standing ≡ Free

-- how a caller has the records that were retired
abbrev pub IsAway : Standing → Type 0
IsAway (Handing n) = ⊥
IsAway Own = ⊥
IsAway Spare = ⊥
IsAway TakenOut = ⊥
IsAway Limbo = Unit {0}
IsAway Free = Unit {0}
IsAway Spent = Unit {0}

-- the record is in limbo, free or spent of the caller, at this generation
pub record OwnsAway (v : View) (r : RefParts) : Type 0 where
  pub owns : OwnsChain v r
  pub away : IsAway owns.share.standing

-- what is known of a record but for the chain word of one that was retired
abbrev pub unchained_as : Share → Standing → Share
unchained_as h (Handing n) = h
unchained_as h Own = h
unchained_as h Spare = h
unchained_as h TakenOut = h
unchained_as h Limbo = record h { words = slice_set h.words 1 0 }
unchained_as h Free = record h { words = slice_set h.words 1 0 }
unchained_as h Spent = record h { words = slice_set h.words 1 0 }

abbrev pub unchained : Option Share → Option Share
unchained None = None
unchained (Some h) = Some (unchained_as h h.standing)

-- what is known but for steps and such chain words
abbrev pub quiet : View → View
quiet v = record v { own = record v.own { steps = []; mine = map unchained v.own.mine; drawing = Unsure } }

-- a load of one of the first three words of a row, or a store of a chain word, made while so many records were idle
pub record IsRowStep (n : ℕ) (t : Step) : Type 0 where
  pub index : ℕ
  pub field : ℕ
  pub word : t.word ≡ Field index field
  pub first_three : field < 3
  pub kind : ((t.kind ≡ Load) × (t.left ≡ t.found)) ⊎ ((t.kind ≡ Store) × (field ≡ 1))
  pub held : t.held ≡ None
  pub idle : t.idle ≡ n

-- the caller made such steps, and nothing but chain words of records that were retired changed
pub record IsStill (v w : View) : Type 0 where
  pub rest : quiet w ≡ quiet v
  pub made : List Step
  pub steps : w.own.steps ≡ v.own.steps ++ made
  pub each : All (IsRowStep (idle v.own)) made
