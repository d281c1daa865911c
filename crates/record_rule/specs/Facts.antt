-- What a set and a reclaimer say of the one table: two records of relations.
use Rattle.std.specs.Prelude.{◌≡◌, ℕ, ◌+◌, ◌-◌, ◌/◌, ◌%◌, List, Bool, true, false, Option, Some, None, slice_index_or, slice_set, ◌==◌}
use mathlib.Core.Option.{some}
use lib.ListN.{get_elem?}
use Rattle.set_model.specs.declared.calls.Call.{Call}
use Rattle.set_model.specs.declared.calls.Call.TheVariants.{Insert, Remove, Search}
use Rattle.set_model.specs.declared.calls.Update.{Update}
use Rattle.set_model.specs.declared.names.SetName.{SetName}
use Rattle.set_model.specs.declared.names.ReclaimerName.{ReclaimerName}
use Rattle.record_memory.specs.declared.books.Setup.{Setup}
use Rattle.record_memory.specs.declared.steps.Word.{Word}
use Rattle.record_memory.specs.declared.books.Guard.{Guard}
use Rattle.record_memory.specs.declared.books.Note.{Note}
use Rattle.row_words.specs.Refs.{RefParts, LinkParts, refer}
use Rattle.row_words.specs.Packing.{link_in, key_in, packed_link}
use Rattle.record_rule.specs.Machines.{legal_for}
use Rattle.record_rule.specs.Inputs.{ShapeCell, root, linked, out, ShapeInput, Start, Trace, SchemeInput}

abbrev pub At : {A : Type 0} → List A → ℕ → A → Type 0
At l i a = get_elem? l i ≡ some a

-- A body is words 3 to 7 of a record. Word f of it, from 3
abbrev pub word_in : List ℕ → ℕ → ℕ
word_in body f = slice_index_or body (f - 3) 0

abbrev pub link_at : List ℕ → ℕ → LinkParts
link_at body f = link_in (word_in body f)

abbrev pub key_at : List ℕ → ℕ
key_at body = key_in (word_in body 4)

abbrev pub with_link : List ℕ → ℕ → ℕ → LinkParts → List ℕ
with_link body f generation l = slice_set body (f - 3) (packed_link generation l)

-- flag 1 marks the record whose link it is
abbrev pub mark_bit : LinkParts → ℕ
mark_bit l = l.flags % 2

abbrev pub HasMark : LinkParts → Type 0
HasMark l = mark_bit l ≡ 1

-- flag 2 says that one caller has locked the link
abbrev pub lock_bit : LinkParts → ℕ
lock_bit l = l.flags / 2 % 2

abbrev pub has_lock : LinkParts → Bool
has_lock l = lock_bit l == 1

abbrev pub HasLock : LinkParts → Type 0
HasLock l = lock_bit l ≡ 1

-- a link without flags
abbrev pub clean : RefParts → LinkParts
clean r = record { flags = 0; target = Some r }

-- what a caller knows of the node that a step is on: a root by its number, or a record that it holds
pub data Near : Type 0 where
  at_root : ℕ → Near
  at_held : RefParts → Note → Near

-- what one load of a link sees
pub record Sight : Type 0 where
  -- the root's number, where it is one's link
  pub node : Option ℕ
  pub body : List ℕ
  pub field : ℕ
  -- the body of the link's target, where that is still there at its generation
  pub target : Option (List ℕ)
  -- the position of the removal that marked the node
  pub marked : ℕ
  -- the start of the caller's guard
  pub start : Start

-- what a caller keeps of a root, by its number, or of a record that it holds
pub data Known : Type 0 where
  of_root : ℕ → List ℕ → Known
  of_held : RefParts → List ℕ → Known

-- what it keeps of its node
abbrev pub known_near : Near → List ℕ → Known
known_near (at_root n) kept = of_root n kept
known_near (at_held r note) kept = of_held r kept

pub record ShapeFacts : Type 1 where
  -- whose sequential machine its steps follow
  pub name : SetName
  -- what holds of the roots and of the records that are linked or were taken out
  pub formed : Setup → ShapeInput → Type 0
  -- what ties them to the history: for a set, that the keys present are the fold of the updates
  pub told : Setup → ShapeInput → Trace → Type 0
  -- how a walk reads the set off the records: which words of a body lead on, and whether a record with this body has its key in the set
  pub leads : ℕ → List ℕ → Bool
  pub present : List ℕ → Bool
  -- what is so where a caller whose guard started there keeps this; no step of another ends it
  pub knows : Setup → ShapeInput → List Update → Start → Known → Type 0
  -- whether a caller may let others decide its call
  pub helped : Type 0
  -- word f of a body changes no more while the record keeps its generation
  pub settled : ℕ → List ℕ → Bool
  -- which links of a node a caller may follow to a record that it then holds
  pub may_hold : Near → ℕ → Type 0
  -- which steps it may make by what it knows: the node, the field, the link that it expects, the new one, and the call that the step decides
  pub may_exchange : Setup → Near → ℕ → LinkParts → LinkParts → Option Call → Type 0
  -- the same for linking an own record with this body in front of the next node
  pub may_publish : Setup → Near → ℕ → LinkParts → List ℕ → Option Near → Option Call → Type 0
  -- the same for taking the next node out, in front of the node behind it, where the caller knows that
  pub may_unlink : Setup → Near → ℕ → LinkParts → Near → LinkParts → Option Near → Option Call → Type 0
  -- which fields of a node may be locked, and which links a caller may follow though their node is marked, by what it keeps of the node
  pub lockable : ℕ → Bool
  pub may_hold_frozen : Setup → Near → List ℕ → ℕ → Type 0
  -- what a load of a link shows of the updates that took effect by then
  pub shown : Setup → Sight → List Update → Type 0

-- what a set says of a state, and what a caller knows of a node
module _ (s : ShapeFacts) where
  abbrev pub Stands : Setup → ShapeInput → Trace → Type 0
  Stands setup x h = s.formed setup x × s.told setup x h

  -- the noted words are the body's and settled
  abbrev pub FitsNote : Note → List ℕ → Type 0
  FitsNote note body = (f n : ℕ) → At note.words f (Some n) → (word_in body (f + 3) ≡ n) × (s.settled (f + 3) body ≡ true)

  -- the record with this index, generation, body and marked position is what the caller knows of the node
  pub data FitsNear (cells : List ShapeCell) : Near → ℕ → ℕ → List ℕ → ℕ → Type 0 where
    is_root : (i generation marked : ℕ) (body : List ℕ) → At cells i (root generation body marked) → FitsNear cells (at_root i) i generation body marked
    is_linked : (i generation marked : ℕ) (body : List ℕ) (note : Note) → At cells i (linked generation body marked) → FitsNote note body → FitsNear cells (at_held (refer (i + 1) generation) note) i generation body marked
    is_out : (i generation marked n : ℕ) (body : List ℕ) (note : Note) → At cells i (out generation body marked n) → FitsNote note body → FitsNear cells (at_held (refer (i + 1) generation) note) i generation body marked

  -- the next node is what the caller holds of a link's target
  pub data FitsNext (cells : List ShapeCell) : Option RefParts → Option Near → Type 0 where
    at_end : FitsNext cells None None
    at_next : (r : RefParts) (note : Note) (i generation marked : ℕ) (body : List ℕ) → FitsNear cells (at_held r note) i generation body marked → FitsNext cells (Some r) (Some (at_held r note))

-- an update that a step decides is one that the set's machine allows there
abbrev pub IsLegalUpdate : SetName → List Update → Option Update → Type 0
IsLegalUpdate name updates None = Unit {0}
IsLegalUpdate name updates (Some u) = legal_for name updates u

abbrev pub update_for : ℕ → ℕ → Option Call → Option Update
update_for c number None = None
update_for c number (Some (Insert k)) = Some (record { caller = c; number = number; key = k; added = true })
update_for c number (Some (Remove k)) = Some (record { caller = c; number = number; key = k; added = false })
update_for c number (Some (Search k)) = None

-- what a step finds of the epoch and of how many records were taken out and how many updates took effect; its caller need not have loaded these
pub record Moment : Type 0 where
  pub epoch : ℕ
  pub taken_out : ℕ
  pub updates : ℕ

-- one load of a link by which a caller may come to hold what it leads to
pub record Reach : Type 0 where
  pub place : ℕ
  -- the caller's guard starts with it
  pub first : Bool
  -- how many steps its caller has made with it
  pub step : ℕ

-- a limbo record, as the test of what may leave limbo reads it
pub record LimboRecord : Type 0 where
  pub reference : RefParts
  pub birth : ℕ
  pub stamp : ℕ

pub record CoverFacts : Type 1 where
  pub name : ReclaimerName
  -- what holds of births, stamps and guards
  pub covered : Setup → SchemeInput → Type 0
  -- the guard of a caller that made no step
  pub first : Guard
  -- how many places a guard has
  pub places : ℕ
  -- whether a guard starts with its caller's first load of a link in it, be anything reached by that load or not
  pub begins_loading : Bool
  -- the births at which a caller may hand out a record
  pub births : Guard → ℕ → Type 0
  -- the stamps with which it may retire the record at this place of the list of those taken out
  pub stamps : Guard → ℕ → ℕ → Type 0
  -- whether it may follow a link, and its guard once it has; the target is missing where there is none to hold
  pub may_reach : Guard → Reach → Type 0
  pub reached : Moment → Guard → Reach → Option RefParts → Guard
  -- what a load of a control word shows, by the guard that its caller had
  pub shows : Setup → Guard → Word → ℕ → Type 0
  -- its guard after it loaded this value of a control word; which records of its limbo leave then; and the guard once they left
  pub loaded : Setup → Moment → ℕ → Guard → Word → ℕ → Guard
  pub may_free : Setup → Guard → LimboRecord → Bool
  pub cleared : Setup → Guard → Guard
  -- whether it may store a value in one of its own announcement words, from 0 to 3, and its guard once it has
  pub may_store : Setup → Guard → ℕ → ℕ → Type 0
  pub stored : Moment → Guard → ℕ → ℕ → ℕ → Guard
  -- whether its guard starts with such a store
  pub begins : Guard → ℕ → ℕ → Bool
  -- whether it may exchange the epoch, from and to
  pub may_exchange : Setup → Guard → ℕ → ℕ → Type 0
