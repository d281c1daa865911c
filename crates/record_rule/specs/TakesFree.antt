-- Taking a free record to hand it out again: one load of its chain word, from which on it has its next generation.
use Rattle.std.specs.Prelude.{◌≡◌, ℕ, ◌+◌, ◌-◌, ◌<◌, ◌≤◌, List, length, take, Some, slice_index_or, slice_set}
use Rattle.record_memory.specs.declared.books.View.{View}
use Rattle.record_memory.specs.declared.books.Share.{Share}
use Rattle.record_memory.specs.declared.books.Standing.TheVariants.{Handing, Free}
use Rattle.row_words.specs.Refs.{RefParts}
use Rattle.record_rule.specs.Records.{IsLinkIn}
use Rattle.record_rule.specs.Kinds.{advanced_by, reused_one, field_load, share_in}

-- the caller has the record as free, at this generation
pub record HasFree (v : View) (r : RefParts) : Type 0 where
  pub within : r.index ≤ v.setup.records
  pub share : Share
  pub known : share_in v r.index ≡ Some share
  pub free : share.standing ≡ Free
  pub generation : share.generation ≡ r.generation

-- what is known of it from then on: it is being handed out at its next generation, and none of its words, which are these, is stored anew yet
abbrev pub renewed : Share → List ℕ → Share
renewed h row = record h { standing = Handing 0; generation = h.generation + 1; words = row }

-- the load of its chain word
abbrev pub took_free : View → RefParts → Share → List ℕ → View
took_free v r h row = advanced_by v (field_load v r.index 1 (slice_index_or row 1 0)) (slice_set v.own.mine (r.index - 1) (Some (renewed h row))) (reused_one v.own.moves)

-- the caller took the free record, whose row begins with the words that it knew
pub record TookFree (v : View) (r : RefParts) (w : View) : Type 0 where
  pub was : HasFree v r
  -- it isn't at the last generation, 1,048,575
  pub below : r.generation < 1048575
  pub row : List ℕ
  pub eight : length row ≡ 8
  pub knew : was.share.words ≡ take 3 row
  pub view : w ≡ took_free v r was.share row

-- the same of a load that found n
pub record LoadedFree (v : View) (r : RefParts) (n : ℕ) (w : View) : Type 0 where
  pub took : TookFree v r w
  pub found : n ≡ slice_index_or took.row 1 0
  pub link : IsLinkIn 1 n
