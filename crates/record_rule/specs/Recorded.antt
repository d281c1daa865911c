-- What is so of each step that a caller made.
use Rattle.std.specs.Prelude.{◌≡◌, ℕ, ◌+◌, ◌/◌, ◌<◌, ◌≤◌, ◌⊎◌, Some, None}
use Rattle.set_model.specs.declared.names.AllocatorName.TheVariants.{Bump, Once}
use Rattle.record_memory.specs.declared.books.Setup.{Setup}
use Rattle.record_memory.specs.declared.steps.Step.{Step}
use Rattle.record_memory.specs.declared.steps.StepKind.{StepKind}
use Rattle.record_memory.specs.declared.steps.StepKind.TheVariants.{Load, Store, Swap, Add, Exchange}
use Rattle.record_memory.specs.declared.steps.Word.{Word}
use Rattle.record_memory.specs.declared.steps.Word.TheVariants.{Drawn, Epoch, Lock, Blank, Shelf, Announced, Cursor, Field}
use Rattle.row_words.specs.Refs.{RefParts}
use Rattle.row_words.specs.Packing.{own_in, link_in}
use Rattle.record_rule.specs.Facts.{HasLock}

-- the kinds of step that caller c makes on a word: on a word that its allocator or its pool doesn't use no kind but a load
abbrev pub IsStepOn : Setup → ℕ → Word → StepKind → Type 0
IsStepOn setup c Drawn k = (k ≡ Load) ⊎ ((k ≡ Add) × (setup.allocator ≡ Bump))
IsStepOn setup c Epoch k = (k ≡ Load) ⊎ (k ≡ Exchange)
IsStepOn setup c Lock k = k ≡ Load
IsStepOn setup c Blank k = k ≡ Load
IsStepOn setup c (Shelf j) k = (k ≡ Load) ⊎ ((k ≡ Swap) ⊎ (k ≡ Exchange))
IsStepOn setup c (Announced j) k = (k ≡ Load) ⊎ ((k ≡ Store) × (j / 4 ≡ c))
IsStepOn setup c (Cursor d) k = (k ≡ Load) ⊎ ((k ≡ Store) × (d ≡ c) × (setup.allocator ≡ Once))
IsStepOn setup c (Field i f) k = (k ≡ Load) ⊎ ((k ≡ Store) ⊎ (k ≡ Exchange))

-- the record with this index is a root that the table has
abbrev pub IsRootIndex : Setup → ℕ → Type 0
IsRootIndex setup i = (0 < i) × (i ≤ setup.roots) × (i ≤ setup.records)

-- What a step on a root or on a held record found and left in its word, by its kind. A load left what it found. A store is made by the caller alone that has the word locked: it found a locked link, and left one that isn't
abbrev pub LeavesLink : StepKind → ℕ → ℕ → Type 0
LeavesLink Load found left = left ≡ found
LeavesLink Store found left = HasLock (link_in found) × ¬ HasLock (link_in left)
LeavesLink Swap found left = ⊥
LeavesLink Add found left = ⊥
LeavesLink Exchange found left = Unit {0}

-- it found and left the first generation in a root
abbrev pub IsInRoot : Setup → ℕ → ℕ → ℕ → Type 0
IsInRoot setup i found left = IsRootIndex setup i × (own_in found ≡ setup.first) × (own_in left ≡ setup.first)

-- What a step that names no held record found and left in a word of record i, by its kind. A load left what it found, and in a root that had the first generation.
-- A store in no root left the generation that it found or, where a record is handed out, the next one. Any other store, and each exchange, was in a root
abbrev pub LeavesWord : Setup → ℕ → StepKind → ℕ → ℕ → Type 0
LeavesWord setup i Load found left = (left ≡ found) × (IsRootIndex setup i → own_in found ≡ setup.first)
LeavesWord setup i Store found left = ((setup.roots < i) × ((own_in left ≡ own_in found) ⊎ (own_in left ≡ own_in found + 1))) ⊎ (IsInRoot setup i found left × LeavesLink Store found left)
LeavesWord setup i Swap found left = ⊥
LeavesWord setup i Add found left = ⊥
LeavesWord setup i Exchange found left = IsInRoot setup i found left

pub record StepFits (setup : Setup) (c : ℕ) (t : Step) : Type 0 where
  pub kind : IsStepOn setup c t.word t.kind
  -- a step on a held record was on a word of it, and found and left its generation there
  pub word : (r : RefParts) → t.held ≡ Some r → (f : ℕ) × (t.word ≡ Field r.index f)
  pub own : (r : RefParts) → t.held ≡ Some r → own_in t.found ≡ r.generation
  pub left : (r : RefParts) → t.held ≡ Some r → own_in t.left ≡ r.generation
  -- it was a load, an exchange, or a store over a locked link
  pub by : (r : RefParts) → t.held ≡ Some r → LeavesLink t.kind t.found t.left
  -- one that names no held record was a load, a store in no root or over a locked link of a root, or an exchange in a root
  pub unheld : t.held ≡ None → (i f : ℕ) → t.word ≡ Field i f → LeavesWord setup i t.kind t.found t.left

-- if it was on the word that counts the records drawn, it found no more than this there
abbrev pub FoundWithin : ℕ → Step → Type 0
FoundWithin drawn t = t.word ≡ Drawn → t.found ≤ drawn
