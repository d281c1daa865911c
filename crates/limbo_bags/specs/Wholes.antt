-- What the calls on whole chains keep, and which records they let go.
use Rattle.std.specs.Prelude.{◌≡◌, ◌==◌, ◌&&◌, ℕ, Bool, not, List}
use Rattle.std.specs.List.{All}
use Rattle.row_words.specs.Refs.{RefParts, LAST_GENERATION}
use Rattle.row_words.specs.Rows.{Row}
use Rattle.limbo_bags.specs.Chains.{IsApart}

-- no record of the first list is in the second
abbrev pub AreApart : List RefParts → List RefParts → Type 0
AreApart refs others = All (λ r. IsApart r others) refs

-- the record is at the last generation, so once it is freed it is spent and is handed out no more
abbrev pub is_last : RefParts → Bool
is_last r = r.generation == LAST_GENERATION

-- once the record is freed it can be handed out anew
abbrev pub is_reusable : RefParts → Bool
is_reusable r = not (is_last r)

-- the birth and the stamp stay, whatever becomes of the chain word
pub record KeepsTimes (before after : Row) : Type 0 where
  pub birth : after.birth ≡ before.birth
  pub stamp : after.stamp ≡ before.stamp

-- a test of a record, its birth and its stamp, of what stands in these rows
abbrev pub passes : (RefParts → ℕ → ℕ → Bool) → (RefParts → Row) → RefParts → Bool
passes kept rows r = kept r (rows r).birth (rows r).stamp

-- the record isn't kept, so it is freed
abbrev pub is_freed : (RefParts → ℕ → ℕ → Bool) → (RefParts → Row) → RefParts → Bool
is_freed kept rows r = not (passes kept rows r)

-- it is freed and can be handed out anew
abbrev pub is_returned : (RefParts → ℕ → ℕ → Bool) → (RefParts → Row) → RefParts → Bool
is_returned kept rows r = is_freed kept rows r && is_reusable r

-- it is freed and is spent
abbrev pub is_spent : (RefParts → ℕ → ℕ → Bool) → (RefParts → Row) → RefParts → Bool
is_spent kept rows r = is_freed kept rows r && is_last r
