-- The facts of a set of at most one key per root: root n stands for the key n. Its link leads nowhere, or to the one linked record with that key.
use Rattle.std.specs.Prelude.{◌≡◌, ℕ, ◌+◌, ◌-◌, ◌<◌, List, false, true, Option, Some, None}
use Rattle.set_model.specs.declared.calls.Call.{Call}
use Rattle.set_model.specs.declared.calls.Call.TheVariants.{Insert, Remove}
use Rattle.set_model.specs.declared.calls.Update.{Update}
use Rattle.set_model.specs.declared.names.SetName.TheVariants.{Michael}
use Rattle.set_model.specs.Keys.{contains}
use Rattle.set_model.specs.Histories.{keys_of}
use Rattle.row_words.specs.Refs.{RefParts, LinkParts, refer}
use Rattle.row_words.specs.Packing.{packed_link, key_in, kind_in}
use Rattle.record_rule.specs.Inputs.{ShapeCell, hidden, root, linked, out, ShapeInput}
use Rattle.record_rule.specs.Facts.{At, word_in, link_at, key_at, HasMark, clean, Near, at_root, at_held, Sight, ShapeFacts}
use Rattle.list_facts.specs.Tellings.{ListTold, list_leads, list_present}
use Rattle.list_facts.specs.Steps.{list_settled, marked_with, IsNode}

-- a link that leads nowhere, without a mark, and with one
abbrev pub empty : LinkParts
empty = record { flags = 0; target = None }

abbrev pub empty_marked : LinkParts
empty_marked = record { flags = 1; target = None }

-- WHAT STANDS

-- a link to the record leads to a linked one with this key
abbrev pub LeadsToKey : List ShapeCell → RefParts → ℕ → Type 0
LeadsToKey cells t k = (body : List ℕ) × (m : ℕ) × (0 < t.index) × At cells (t.index - 1) (linked t.generation body m) × (key_at body ≡ k)

-- the root with this number leads to the record
abbrev pub IsUnder : List ShapeCell → ℕ → RefParts → Type 0
IsUnder cells n t = (generation m : ℕ) × (body : List ℕ) × At cells n (root generation body m) × (link_at body 3 ≡ clean t)

-- a root's link has no flags and leads to a record with the root's key, or nowhere; a linked record has a key of kind 0 and is the one behind the root of that key; the link of a record leads nowhere, and that of one that was taken out has the mark
abbrev pub CellFits : List ShapeCell → ℕ → ShapeCell → Type 0
CellFits cells i hidden = Unit {0}
CellFits cells i (root generation body m) = ((link_at body 3).flags ≡ 0) × ((t : RefParts) → (link_at body 3).target ≡ Some t → LeadsToKey cells t i)
CellFits cells i (linked generation body m) = ((link_at body 3).flags < 2) × ((link_at body 3).target ≡ None) × (kind_in (word_in body 4) ≡ 0) × IsUnder cells (key_at body) (refer (i + 1) generation)
CellFits cells i (out generation body m n) = ((link_at body 3).flags ≡ 1) × ((link_at body 3).target ≡ None)

pub record OneKeyFits (x : ShapeInput) : Type 0 where
  pub each : (i : ℕ) (cell : ShapeCell) → At x.cells i cell → CellFits x.cells i cell

-- WHICH STEPS A CALLER MAY MAKE

-- a record whose key is the root's number, and whose link leads nowhere, may be linked behind an empty root; this decides its insertion
pub record MayLink (near : Near) (f : ℕ) (expected : LinkParts) (body : List ℕ) (call : Option Call) : Type 0 where
  pub field : f ≡ 3
  pub generation : ℕ
  pub key : ℕ
  pub at : near ≡ at_root key
  pub free : expected ≡ empty
  pub node : IsNode generation key empty body
  pub decides : call ≡ Some (Insert key)

-- a held record without a mark may be marked; this decides the removal of its key
abbrev pub MayMark : Near → ℕ → LinkParts → LinkParts → Option Call → Type 0
MayMark (at_root n) f old new call = ⊥
MayMark (at_held r note) f old new call = (f ≡ 3) × (old.flags ≡ 0) × (new ≡ marked_with old) × ((word : ℕ) × At note.words 1 (Some word) × (call ≡ Some (Remove (key_in word))))

-- a record that is known to be marked may be taken out behind its root, whose link leads nowhere then; this decides nothing
abbrev pub MayTakeOut : Near → ℕ → LinkParts → Near → LinkParts → Option Call → Type 0
MayTakeOut (at_root n) f old (at_root m) new call = ⊥
MayTakeOut (at_root n) f old (at_held r note) new call = (f ≡ 3) × (old.flags ≡ 0) × ((generation : ℕ) × At note.words 0 (Some (packed_link generation empty_marked))) × (new ≡ empty) × (call ≡ None)
MayTakeOut (at_held r note) f old gone new call = ⊥

-- WHAT A LOAD SHOWS

pub record OneKeyShown (y : Sight) (updates : List Update) : Type 0 where
  -- a link's only flag is the mark
  pub flagged : (link_at y.body 3).flags < 2
  -- a root that leads nowhere: its key is absent
  pub absent : (n : ℕ) → y.node ≡ Some n → (link_at y.body 3).target ≡ None → contains (keys_of updates) n ≡ false
  -- what a root leads to has its key
  pub behind : (n : ℕ) (b : List ℕ) → y.node ≡ Some n → y.field ≡ 3 → y.target ≡ Some b → key_at b ≡ n
  -- a record without a mark: its key is present
  pub present : y.node ≡ None → ¬ HasMark (link_at y.body 3) → contains (keys_of updates) (key_at y.body) ≡ true
  -- a record's link leads nowhere
  pub ends : y.node ≡ None → (link_at y.body 3).target ≡ None

abbrev pub one_key : ShapeFacts
one_key = record {
  name = Michael;
  formed = λ setup x. OneKeyFits x;
  told = λ setup x h. ListTold x h;
  leads = list_leads;
  present = list_present;
  knows = λ setup x updates start k. Unit {0};
  helped = ⊥;
  settled = list_settled;
  may_hold = λ near f. f ≡ 3;
  may_exchange = λ setup near f old new call. MayMark near f old new call;
  may_publish = λ setup near f old body next call. MayLink near f old body call;
  may_unlink = λ setup near f old gone new next call. MayTakeOut near f old gone new call;
  lockable = λ f. false;
  may_hold_frozen = λ setup near kept f. ⊥;
  shown = λ setup y updates. OneKeyShown y updates;
}
