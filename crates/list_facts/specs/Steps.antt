-- Which steps a list allows a caller by what it knows.
use Rattle.std.specs.Prelude.{◌≡◌, ℕ, ◌+◌, ◌-◌, ◌%◌, ◌^◌, ◌<◌, List, Bool, true, false, Option, Some, None, slice_index_or, ◌==◌, if◌then◌else◌}
use Rattle.set_model.specs.declared.calls.Call.{Call}
use Rattle.set_model.specs.declared.calls.Call.TheVariants.{Insert, Remove}
use Rattle.record_memory.specs.declared.books.Setup.{Setup}
use Rattle.record_memory.specs.declared.books.Note.{Note}
use Rattle.row_words.specs.Refs.{LinkParts}
use Rattle.row_words.specs.Packing.{packed_link, packed_key, key_in}
use Rattle.record_rule.specs.Facts.{At, word_in, link_at, mark_bit, Near, at_root, at_held}

-- a key stands, and a link does once it has a mark
abbrev pub list_settled : ℕ → List ℕ → Bool
list_settled f body = if f == 4 then true else (if f == 3 then mark_bit (link_at body 3) == 1 else false)

abbrev pub key_in_note : Option ℕ → ℕ
key_in_note None = 0
key_in_note (Some n) = key_in n

-- the key of a held record
abbrev pub key_noted : Note → ℕ
key_noted note = key_in_note (slice_index_or note.words 1 None)

abbrev pub rank_near : Near → ℕ
rank_near (at_root n) = 0
rank_near (at_held r note) = key_noted note + 1

abbrev pub home_near : Setup → Near → ℕ
home_near setup (at_root n) = n
home_near setup (at_held r note) = key_noted note % setup.roots

-- the key of what a caller holds is known
abbrev pub IsKeyed : Near → Type 0
IsKeyed (at_root n) = Unit {0}
IsKeyed (at_held r note) = (n : ℕ) × At note.words 1 (Some n)

abbrev pub IsRecord : Near → Type 0
IsRecord (at_root n) = ⊥
IsRecord (at_held r note) = Unit {0}

abbrev pub IsAbove : ℕ → Option Near → Type 0
IsAbove rank None = Unit {0}
IsAbove rank (Some near) = (rank < rank_near near) × IsKeyed near

abbrev pub marked_with : LinkParts → LinkParts
marked_with l = record l { flags = 1 }

-- an own record with this key, whose link is the expected one without flags
pub record IsNode (generation key : ℕ) (link : LinkParts) (body : List ℕ) : Type 0 where
  pub link_is : word_in body 3 ≡ packed_link generation (record link { flags = 0 })
  pub key_is : word_in body 4 ≡ packed_key generation 0 key
  pub key_fits : key < 2 ^ 40

-- a record may be linked between a node and its next where its key is between theirs; this decides its insertion
pub record MayPublish (flags : ℕ) (setup : Setup) (near : Near) (f : ℕ) (expected : LinkParts) (body : List ℕ) (next : Option Near) (call : Option Call) : Type 0 where
  pub field : f ≡ 3
  pub flags_are : expected.flags ≡ flags
  pub generation : ℕ
  pub k : ℕ
  pub node : IsNode generation k expected body
  pub keyed : IsKeyed near
  pub above : rank_near near < k + 1
  pub below : IsAbove (k + 1) next
  pub home : home_near setup near ≡ k % setup.roots
  pub decides : call ≡ Some (Insert k)

-- a held record may be marked; this decides the removal of its key
abbrev pub MayMark : ℕ → Setup → Near → ℕ → LinkParts → LinkParts → Option Call → Type 0
MayMark flags setup near f old new call = (f ≡ 3) × IsRecord near × IsKeyed near × (old.flags ≡ flags) × (new ≡ marked_with old) × (call ≡ Some (Remove (rank_near near - 1)))

-- a marked record whose link is known may be taken out, and its predecessor's link then leads to where its own does
abbrev pub MayUnlink : Setup → Near → ℕ → Near → LinkParts → Type 0
MayUnlink setup near f (at_root n) new = ⊥
MayUnlink setup near f (at_held r note) new = (f ≡ 3) × ((generation : ℕ) × At note.words 0 (Some (packed_link generation (marked_with new)))) × (new.flags ≡ 0)
