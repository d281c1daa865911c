-- What retiring leaves of the record: it is in limbo with its stamp, in front of a bag.
use Rattle.std.specs.Prelude.{◌≡◌, ℕ, ◌-◌, Bool, true, Option, Some, None, slice_index_or, slice_set}
use Rattle.record_memory.specs.declared.books.Book.{Book}
use Rattle.record_memory.specs.declared.books.View.{View}
use Rattle.record_memory.specs.declared.books.Share.{Share}
use Rattle.record_memory.specs.declared.books.Standing.TheVariants.{Limbo}
use Rattle.row_words.specs.Refs.{RefParts}
use Rattle.row_words.specs.Packing.{packed_number}
use Rattle.record_rule.specs.Asides.{chain_word}
use Rattle.record_rule.specs.Facts.{LimboRecord}
use Rattle.record_rule.specs.Kinds.{stored}
use Rattle.record_rule.specs.Links.{HasTaken, retired_share, retired}
use Rattle.record_rule.specs.ChainRows.{IsStill}
use Rattle.record_rule.specs.Freeing.{limbo_share}
use Rattle.reclaim_api.specs.Bags.{bag_count}

-- the record before which another comes in the bag of those that pass a test: one in limbo that passes it, and none where there is none
abbrev pub IsHeadFor : (LimboRecord → Bool) → Book → Option RefParts → Type 0
IsHeadFor test b None = bag_count test b ≡ 0
IsHeadFor test b (Some q) = (h : Share) × (slice_index_or b.mine (q.index - 1) None ≡ Some h) × (h.standing ≡ Limbo) × (h.generation ≡ q.generation) × (test (limbo_share (q.index - 1) h) ≡ true)

-- what is known of a record that was retired with this stamp and put in front of a bag
abbrev pub bagged_share : Share → RefParts → ℕ → Option RefParts → Share
bagged_share h r stamp next = record (retired_share h (packed_number r.generation stamp)) { words = slice_set (retired_share h (packed_number r.generation stamp)).words 1 (chain_word r.generation next) }

-- the record was retired with this stamp and put in front of the bag of all that the caller has in limbo
pub record HasKept (v : View) (r : RefParts) (stamp : ℕ) (w : View) : Type 0 where
  pub share : Share
  pub taken : HasTaken v r share
  pub next : Option RefParts
  pub before : IsHeadFor (λ x. true) v.own next
  pub still : IsStill (retired v r share stamp) w
  pub view : w ≡ stored (retired v r share stamp) r.index 1 (chain_word r.generation next)
