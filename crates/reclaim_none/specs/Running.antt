-- The steps of the functions of no reclamation: entering, leaving and a birth make none, a try to hold is one load, and retiring one store.
use Rattle.std.specs.Prelude.{◌≡◌, ℕ, [], ◌∷◌, ◌++◌}
use Rattle.record_memory.specs.declared.books.Setup.{Setup}
use Rattle.record_memory.specs.declared.books.Book.{Book}
use Rattle.row_words.specs.Refs.{RefParts}
use Rattle.row_words.specs.declared.links.Freed.{Freed}
use Rattle.reclaim_api.specs.StepForms.{IsNoneFreed, stamp_store}

-- no step is made
abbrev pub Enters : Setup → Book → Freed → Book → Type 0
Enters setup b f c = (c ≡ b) × IsNoneFreed f

abbrev pub Leaves : Setup → Book → Book → Type 0
Leaves setup b c = c ≡ b

abbrev pub Bears : Setup → Book → ℕ → Book → Type 0
Bears setup b n c = (n ≡ 0) × (c ≡ b)

-- the one store of the stamp
pub record PutsAway (setup : Setup) (b : Book) (r : RefParts) (f : Freed) (c : Book) : Type 0 where
  pub none : IsNoneFreed f
  pub found : ℕ
  pub steps : c.steps ≡ b.steps ++ stamp_store b r 0 found ∷ []
