-- How a caller gives chains of its free records to the pool, once some became free.
use Rattle.std.specs.Prelude.{◌≡◌, ℕ, ◌<◌, ◌≤◌, ◌⊎◌, List, [], ◌∷◌, ◌++◌, length, map, Bool, true, false}
use Rattle.record_memory.specs.declared.steps.Step.{Step}
use Rattle.record_memory.specs.declared.books.Book.{Book}
use Rattle.row_words.specs.Refs.{RefParts}
use Rattle.row_words.specs.declared.links.Freed.{Freed}
use Rattle.record_rule.specs.Standings.{is_free}
use Rattle.reclaim_api.specs.Frames.{had}
use Rattle.record_pieces.specs.OwnSteps.{OneStep, own_load, own_store}

-- a caller gives chains while it has this many free records
abbrev pub MANY : ℕ
MANY = 64

-- the loads of the chain words of these records, each with what its load found
abbrev pub chain_loads : Book → List (RefParts × ℕ) → List Step
chain_loads b walked = map (λ (w : RefParts × ℕ). own_load b w.0 1 w.1) walked

-- the caller goes along a chain by the chain words of 31 records to the 32nd, loads what comes after that, and lets the chain end there
pub record CutsOff (b : Book) (last : RefParts) (c : Book) : Type 0 where
  pub walked : List (RefParts × ℕ)
  pub many : length walked ≡ 31
  pub next : ℕ
  pub found : ℕ
  pub left : ℕ
  pub steps : c.steps ≡ b.steps ++ (chain_loads b walked ++ own_load b last 1 next ∷ own_store b last 1 found left ∷ [])

-- it lets the chain go on behind this record
abbrev pub Mends : Book → RefParts → Book → Type 0
Mends b last c = (found : ℕ) × (left : ℕ) × OneStep b (own_store b last 1 found left) c

module _ (shelves : ℕ) (gives : Book → Bool → Book → Type 0) where
  -- one chain is cut off, and the pool puts it on a shelf
  pub record GivesOne (b c : Book) : Type 0 where
    pub between : Book
    pub last : RefParts
    pub cut : CutsOff b last between
    pub given : gives between true c

  -- or it finds every shelf taken, and the chain is put back
  pub record KeepsOne (b c : Book) : Type 0 where
    pub between : Book
    pub kept : Book
    pub last : RefParts
    pub cut : CutsOff b last between
    pub given : gives between false kept
    pub mended : Mends kept last c

  module _ (f : Freed) where
    -- some records were freed, there are shelves, and so many records are free
    pub record HasToGive (b : Book) : Type 0 where
      pub freed : 0 < f.freed
      pub some : 0 < shelves
      pub many : MANY ≤ had is_free b

    -- one of these isn't so
    abbrev pub HasNoneToGive : Book → Type 0
    HasNoneToGive b = (f.freed ≡ 0) ⊎ (shelves ≡ 0) ⊎ (had is_free b < MANY)

    -- a chain is given as long as the caller has to, one after another, until one is kept
    pub data GivesChains : Book → Book → Type 0 where
      gave_all : (b c : Book) → HasNoneToGive b → c ≡ b → GivesChains b c
      kept_one : (b c : Book) → HasToGive b → KeepsOne b c → GivesChains b c
      gave_one : (b d c : Book) → HasToGive b → GivesOne b d → GivesChains d c → GivesChains b c
