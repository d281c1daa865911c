-- What a caller knows of a root and of its key once it looked.
use Rattle.std.specs.Prelude.{◌≡◌, ℕ, true, false, Some}
use Rattle.row_words.specs.Packing.{key_in, packed_link}
use Rattle.record_rule.specs.Facts.{At}
use Rattle.record_rule.specs.Links.{note_in}
use Rattle.record_table.specs.declared.passes.Pass.{Pass}
use Rattle.record_table.specs.declared.nodes.Held.{Held}
use Rattle.record_table.specs.Handles.{view}
use Rattle.record_table.specs.Nodes.{HoldsThere}
use Rattle.one_key_facts.specs.OneKey.{empty_marked}
use Rattle.set_calls.specs.Knowing.{HasSeenKey}
use Rattle.one_key_set.specs.declared.looking.Seen.{Seen}
use Rattle.one_key_set.specs.declared.looking.Seen.TheVariants.{Absent, Present, Changed}

module _ {S R : Type 0} where
  -- it holds the record, and knows that this is its key
  pub record HoldsKey (p : Pass S R) (key : ℕ) (at : Held) : Type 0 where
    pub there : HoldsThere p at
    pub word : ℕ
    pub known : At (note_in (view p).own.notes at.place).words 1 (Some word)
    pub key_is : key_in word ≡ key

  -- it knows that the record is marked
  abbrev pub KnowsMark : Pass S R → Held → Type 0
  KnowsMark p at = (generation : ℕ) × At (note_in (view p).own.notes at.place).words 0 (Some (packed_link generation empty_marked))

  -- what it knows by what it saw behind the root of the key, at its last look
  abbrev pub IsSeen : Pass S R → ℕ → Seen → Type 0
  IsSeen p key Absent = HasSeenKey p key false (view p).own.updates_seen
  IsSeen p key (Present at) = HoldsKey p key at × HasSeenKey p key true (view p).own.updates_seen
  IsSeen p key Changed = Unit {0}
