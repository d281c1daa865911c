-- The facts of the lazy list: sorted lists whose links are locked by a flag, and whose marked records may be walked over.
use Rattle.std.specs.Prelude.{◌≡◌, ℕ, ◌+◌, ◌-◌, ◌%◌, ◌<◌, ◌≤◌, ◌⊎◌, ◌==◌, List, length, take, false, Option, Some, None}
use Rattle.set_model.specs.declared.calls.Call.{Call}
use Rattle.set_model.specs.declared.calls.Update.{Update}
use Rattle.set_model.specs.declared.names.SetName.TheVariants.{Lazy}
use Rattle.set_model.specs.Keys.{contains}
use Rattle.set_model.specs.Histories.{keys_of}
use Rattle.row_words.specs.Refs.{LinkParts}
use Rattle.record_memory.specs.declared.books.Setup.{Setup}
use Rattle.record_rule.specs.Inputs.{ShapeInput, Trace}
use Rattle.record_rule.specs.Facts.{At, link_at, key_at, HasMark, Near, Sight, ShapeFacts}
use Rattle.list_facts.specs.Lists.{ListFits}
use Rattle.list_facts.specs.Tellings.{ListTold, list_leads, list_present, NoneWithin, rank_of, IsTargetSeen, ListShown}
use Rattle.list_facts.specs.Steps.{list_settled, MayMark, MayPublish, MayUnlink}
use Rattle.lazy_facts.specs.Absences.{MarkedLeadUp, absence_place, AbsencesFit}

-- WHAT STANDS

-- a link's flags are none, the mark (1) or the lock (2), and never both
abbrev pub lazy_flags : ℕ → Type 0
lazy_flags n = n < 3

pub record LazyFits (setup : Setup) (x : ShapeInput) : Type 0 where
  pub lists : ListFits lazy_flags setup x
  -- a walk that passes a marked record goes on to a higher key
  pub up : MarkedLeadUp setup x.cells

pub record LazyTold (setup : Setup) (x : ShapeInput) (h : Trace) : Type 0 where
  pub list : ListTold x h
  -- what a marked record shows to a guard: its key is absent behind the later of the guard's start and the marking
  pub absences : AbsencesFit setup x.cells h

-- WHICH STEPS A CALLER MAY MAKE

-- a link without flags gets the lock, and nothing is decided
abbrev pub MayLock : ℕ → LinkParts → LinkParts → Option Call → Type 0
MayLock f old new call = (f ≡ 3) × (old.flags ≡ 0) × (new ≡ record old { flags = 2 }) × (call ≡ None)

-- a lock is taken off, and nothing is decided
abbrev pub MayUnlock : ℕ → LinkParts → LinkParts → Option Call → Type 0
MayUnlock f old new call = (f ≡ 3) × (old.flags ≡ 2) × (new ≡ record old { flags = 0 }) × (call ≡ None)

-- or the lock of a held record becomes its mark, which decides the removal of its key; that a locked link is changed by who locked it alone is the rule's to say
abbrev pub MayTurn : Setup → Near → ℕ → LinkParts → LinkParts → Option Call → Type 0
MayTurn setup near f old new call = MayLock f old new call ⊎ (MayUnlock f old new call ⊎ MayMark 2 setup near f old new call)

-- WHAT A LOAD SHOWS

pub record LazyShown (setup : Setup) (y : Sight) (updates : List Update) : Type 0 where
  pub list : ListShown lazy_flags setup y updates
  -- a marked node is a record
  pub is_record : HasMark (link_at y.body 3) → y.node ≡ None
  -- what a marked link leads to stands in the same list, behind the node
  pub up : HasMark (link_at y.body 3) → y.field ≡ 3 → (b : List ℕ) → y.target ≡ Some b → (key_at b % setup.roots ≡ key_at y.body % setup.roots) × (key_at y.body < key_at b)
  -- a marked node has the position, from 1, of the removal that marked it
  pub marked : HasMark (link_at y.body 3) → (0 < y.marked) × ((u : Update) × At updates (y.marked - 1) u × (u.key ≡ key_at y.body) × (u.added ≡ false))
  -- behind the later of the guard's start and that removal, its key is absent
  pub within : HasMark (link_at y.body 3) → absence_place y.start y.marked ≤ length updates
  pub own : HasMark (link_at y.body 3) → contains (keys_of (take (absence_place y.start y.marked) updates)) (key_at y.body) ≡ false
  -- and so is every key up to the target's
  pub up_to : HasMark (link_at y.body 3) → y.field ≡ 3 → IsTargetSeen (link_at y.body 3).target y.target
      → NoneWithin setup (key_at y.body % setup.roots) (key_at y.body + 1) (rank_of y.target) (take (absence_place y.start y.marked) updates)

abbrev pub lazy : ShapeFacts
lazy = record {
  name = Lazy;
  formed = λ setup x. LazyFits setup x;
  told = λ setup x h. LazyTold setup x h;
  leads = list_leads;
  present = list_present;
  knows = λ setup x updates start k. Unit {0};
  helped = ⊥;
  settled = list_settled;
  may_hold = λ near f. f ≡ 3;
  may_exchange = MayTurn;
  may_publish = MayPublish 2;
  may_unlink = λ setup near f old gone new next call. (old.flags ≡ 2) × MayUnlink setup near f gone new × (call ≡ None);
  lockable = λ f. f == 3;
  may_hold_frozen = λ setup near kept f. f ≡ 3;
  shown = λ setup y updates. LazyShown setup y updates;
}
