-- What a load that frees takes of a caller's limbo, and how many records of it pass a test.
use Rattle.std.specs.Prelude.{◌≡◌, ◌≢◌, ℕ, ◌+◌, List, [], ◌∷◌, ◌++◌, length, Bool, true, Option, Some, None, All, ◌==◌, if◌then◌else◌}
use Rattle.record_memory.specs.declared.books.Book.{Book}
use Rattle.record_memory.specs.declared.books.View.{View}
use Rattle.record_memory.specs.declared.books.Share.{Share}
use Rattle.record_memory.specs.declared.books.Standing.TheVariants.{Limbo}
use Rattle.row_words.specs.Refs.{RefParts}
use Rattle.row_words.specs.declared.links.Chain.{Chain}
use Rattle.row_words.specs.declared.links.Freed.{Freed}
use Rattle.limbo_bags.specs.Chains.{IsChain}
use Rattle.record_rule.specs.Facts.{LimboRecord}
use Rattle.record_rule.specs.Kinds.{freed_more}
use Rattle.record_rule.specs.Freeing.{leaves_limbo, freed_from, count_freed}
use Rattle.record_rule.specs.ChainRows.{row_in, OwnsAway}
use Rattle.reclaim_api.specs.Chained.{IsAs, refs_in}

-- what a test reads of a record in limbo
abbrev pub limbo_read : View → RefParts → LimboRecord
limbo_read v r = record { reference = r; birth = (row_in v r).birth; stamp = (row_in v r).stamp }

-- how many records of the caller's limbo pass the test
abbrev pub bag_count : (LimboRecord → Bool) → Book → ℕ
bag_count test b = count_freed test 0 b.mine

-- how many of those that leave limbo are at the last generation, so that they are spent
abbrev pub spends_one : (LimboRecord → Bool) → ℕ → Option Share → ℕ
spends_one may i None = 0
spends_one may i (Some h) = if leaves_limbo may i h then (if h.generation == 1048575 then 1 else 0) else 0

abbrev pub count_spent : (LimboRecord → Bool) → ℕ → List (Option Share) → ℕ
count_spent may i [] = 0
count_spent may i (s ∷ ss) = spends_one may i s + count_spent may (i + 1) ss

-- those of the caller's limbo that pass the test have left it, and all other records are as they were
pub record LeftLimbo (may : LimboRecord → Bool) (v w : View) : Type 0 where
  pub setup : w.setup ≡ v.setup
  pub mine : w.own.mine ≡ freed_from may 0 v.own.mine
  pub moves : w.own.moves ≡ freed_more v.own.moves (bag_count may v.own)
  pub answered : w.own.answered ≡ v.own.answered
  pub locks : w.own.locks ≡ v.own.locks
  pub front : w.front ≡ v.front

-- of the records that left limbo these stand in front of the free ones, and all others are spent
pub record FreedInFront (may : LimboRecord → Bool) (v : View) (free : Chain) (f : Freed) (w : View) (after : Chain) : Type 0 where
  pub moved : List RefParts
  pub refs : refs_in w after ≡ moved ++ refs_in v free
  pub list : IsChain (OwnsAway w) (row_in w) after
  -- each was in limbo, passed the test and can be handed out anew
  pub left : All (λ r. IsAs Limbo v r × (may (limbo_read v r) ≡ true) × (r.generation ≢ 1048575)) moved
  pub many : length moved + f.spent ≡ f.freed
  -- all that left are counted
  pub freed : f.freed ≡ bag_count may v.own
  pub spent : f.spent ≡ count_spent may 0 v.own.mine
