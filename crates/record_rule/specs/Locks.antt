-- Which links are locked, and by whom: a link has the flag just where one caller has locked it, and that caller knows what its word holds.
use Rattle.std.specs.Prelude.{◌≡◌, ℕ, ◌+◌, ◌-◌, ◌<◌, ◌≤◌, List, [], ◌∷◌, true, Option, Some, None, ◌==◌, ◌&&◌, if◌then◌else◌}
use Rattle.record_memory.specs.declared.books.LockedWord.{LockedWord}
use Rattle.row_words.specs.Packing.{link_in}
use Rattle.record_rule.specs.Inputs.{ShapeCell, hidden, root, linked, out}
use Rattle.record_rule.specs.Facts.{At, word_in, link_at, HasLock, ShapeFacts}

-- the body of a record that a set sees, and of one that is a root or linked
abbrev pub body_in : ShapeCell → Option (List ℕ)
body_in hidden = None
body_in (root generation body m) = Some body
body_in (linked generation body m) = Some body
body_in (out generation body m n) = Some body

abbrev pub standing_in : ShapeCell → Option (List ℕ)
standing_in hidden = None
standing_in (root generation body m) = Some body
standing_in (linked generation body m) = Some body
standing_in (out generation body m n) = None

-- it is word f of record i, which counts from 1
abbrev pub IsOn : LockedWord → ℕ → ℕ → Type 0
IsOn l i f = (l.index ≡ i) × (l.field ≡ f)

-- no word stands twice in a caller's list
abbrev pub AreApart : List LockedWord → Type 0
AreApart [] = Unit {0}
AreApart (l ∷ ls) = ((k : ℕ) (m : LockedWord) → At ls k m → ¬ IsOn m l.index l.field) × AreApart ls

-- what a word of the list holds, where it is one
abbrev pub locked_in : ℕ → ℕ → List LockedWord → Option ℕ
locked_in i f [] = None
locked_in i f (l ∷ ls) = if l.index == i && l.field == f then Some l.value else locked_in i f ls

-- the list without a word
abbrev pub without : ℕ → ℕ → List LockedWord → List LockedWord
without i f [] = []
without i f (l ∷ ls) = if l.index == i && l.field == f then without i f ls else l ∷ without i f ls

-- some caller has locked word f of record i
abbrev pub IsLocked : List (List LockedWord) → ℕ → ℕ → Type 0
IsLocked locks i f = (c k : ℕ) × (ls : List LockedWord) × (l : LockedWord) × At locks c ls × At ls k l × IsOn l i f

module _ (s : ShapeFacts) where
  -- its caller knows what the locked word holds, a link with the flag, and its record is a root or linked
  pub record LockFits (cells : List ShapeCell) (l : LockedWord) : Type 0 where
    pub lockable : s.lockable l.field ≡ true
    pub low : 3 ≤ l.field
    pub some_index : 0 < l.index
    pub cell : ShapeCell
    pub body : List ℕ
    pub at : At cells (l.index - 1) cell
    pub stands : standing_in cell ≡ Some body
    pub value : word_in body l.field ≡ l.value
    pub flag : HasLock (link_in l.value)

  pub record LocksFit (cells : List ShapeCell) (locks : List (List LockedWord)) : Type 0 where
    pub each : (c k : ℕ) (ls : List LockedWord) (l : LockedWord) → At locks c ls → At ls k l → LockFits cells l
    -- one caller has a word locked, and once
    pub alone : (c d k j : ℕ) (ls ms : List LockedWord) (l m : LockedWord) → At locks c ls → At locks d ms → At ls k l → At ms j m → IsOn l m.index m.field → c ≡ d
    pub apart : (c : ℕ) (ls : List LockedWord) → At locks c ls → AreApart ls
    -- and each lock on a link of a record that a set sees is some caller's
    pub flagged : (i f : ℕ) (cell : ShapeCell) (body : List ℕ) → At cells i cell → body_in cell ≡ Some body → s.lockable f ≡ true → 3 ≤ f → HasLock (link_at body f) → IsLocked locks (i + 1) f
