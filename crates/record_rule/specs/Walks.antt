-- A walk over a set's records, from the roots along the links that lead on, and the keys that it reads. These are what ties a set's facts to the machine that its name fixes.
use Rattle.std.specs.Prelude.{◌≡◌, ℕ, ◌-◌, ◌<◌, ◌⊎◌, ◌↔◌, List, drop, Bool, true, IsTrue, Some, slice_index_or}
use Rattle.set_model.specs.declared.calls.Update.{Update}
use Rattle.set_model.specs.declared.names.SetName.{SetName}
use Rattle.set_model.specs.declared.names.SetName.TheVariants.{Plain, Michael, Lazy}
use Rattle.set_model.specs.Keys.{contains}
use Rattle.set_model.specs.Histories.{keys_of}
use Rattle.record_memory.specs.declared.books.Setup.{Setup}
use Rattle.row_words.specs.Refs.{RefParts}
use Rattle.row_words.specs.Packing.{own_in, kind_in}
use Rattle.record_rule.specs.Inputs.{ShapeCell, root, linked}
use Rattle.record_rule.specs.Facts.{At, word_in, link_at, key_at, ShapeFacts}

-- what a walk goes over
pub record Ground : Type 1 where
  -- word f of a record with this body leads on
  pub leads : ℕ → List ℕ → Bool
  -- a record with this body has its key in the set
  pub present : List ℕ → Bool
  -- a root has this body
  pub root : List ℕ → Type 0
  -- the record that a reference names has this body
  pub named : RefParts → List ℕ → Type 0

-- a word of this body that leads on has the reference as its target
pub record LeadsOn (leads : ℕ → List ℕ → Bool) (body : List ℕ) (t : RefParts) : Type 0 where
  pub field : ℕ
  pub on : leads field body ≡ true
  pub target : (link_at body field).target ≡ Some t

module _ (g : Ground) where
  -- a walk comes to the record that the reference names, which has this body
  pub data IsWalked : RefParts → List ℕ → Type 0 where
    from_root : (body : List ℕ) (t : RefParts) (next : List ℕ) → g.root body → LeadsOn g.leads body t → g.named t next → IsWalked t next
    from_record : (r : RefParts) (body : List ℕ) (t : RefParts) (next : List ℕ) → IsWalked r body → LeadsOn g.leads body t → g.named t next → IsWalked t next

  -- it goes on from a record with this body, or from a root
  abbrev pub IsOnWalk : List ℕ → Type 0
  IsOnWalk body = g.root body ⊎ ((r : RefParts) × IsWalked r body)

  -- it reads the key: that of a record to which it comes, which has it in the set
  pub record Reads (k : ℕ) : Type 0 where
    pub ref : RefParts
    pub body : List ℕ
    pub walked : IsWalked ref body
    pub present : g.present body ≡ true
    pub kind : kind_in (word_in body 4) ≡ 0
    pub key : key_at body ≡ k

-- What it reads is what the machine leaves behind the updates: of the sets of keys
abbrev pub set_read : Ground → List Update → Type 0
set_read g updates = (k : ℕ) → IsTrue (contains (keys_of updates) k) ↔ Reads g k

-- by name
abbrev pub read_for : SetName → Ground → List Update → Type 0
read_for Plain = set_read
read_for Michael = set_read
read_for Lazy = set_read

-- the records as a set sees them: it comes to linked ones at their generation
abbrev pub cells_ground : ShapeFacts → List ShapeCell → Ground
cells_ground s cells = record {
  leads = s.leads;
  present = s.present;
  root = λ body. (i generation m : ℕ) × At cells i (root generation body m);
  named = λ t body. (m : ℕ) × (0 < t.index) × At cells (t.index - 1) (linked t.generation body m);
}

-- the first records are roots, and there is one
pub record HasRoots (setup : Setup) (cells : List ShapeCell) : Type 0 where
  pub some_root : 0 < setup.roots
  pub each : (i : ℕ) → i < setup.roots → (generation m : ℕ) × (body : List ℕ) × At cells i (root generation body m)

-- a row whose words all carry this generation
abbrev pub Carries : List ℕ → ℕ → Type 0
Carries row generation = (f : ℕ) → f < 8 → own_in (slice_index_or row f 0) ≡ generation

-- the rows of a table by themselves: the first ones are the roots', and a reference names a row whose words carry its generation
abbrev pub rows_ground : ShapeFacts → ℕ → List (List ℕ) → Ground
rows_ground s roots rows = record {
  leads = s.leads;
  present = s.present;
  root = λ body. (i : ℕ) × (row : List ℕ) × (i < roots) × At rows i row × (drop 3 row ≡ body);
  named = λ t body. (row : List ℕ) × (0 < t.index) × At rows (t.index - 1) row × Carries row t.generation × (drop 3 row ≡ body);
}
