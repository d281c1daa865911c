-- What the counts of a caller say of its moves and of its records.
use Rattle.std.specs.Prelude.{◌≡◌, ℕ, ◌-◌, ◌<◌, ◌^◌, nat_lt, if◌then◌else◌}
use Rattle.set_model.specs.declared.calls.Counts.{Counts}
use Rattle.record_memory.specs.declared.books.Book.{Book}
use Rattle.record_rule.specs.Standings.{is_limbo, is_free, is_spare, is_spent}
use Rattle.reclaim_api.specs.Frames.{had, IsLimboLeft}
use Rattle.manager.specs.declared.types.Moved.{Moved}

-- a count that rises stands still at its type's end
abbrev pub shown : ℕ → ℕ
shown n = if nat_lt n (2 ^ 64) then n else 2 ^ 64 - 1

-- a caller's own numbers are those of its moves and of its spent records, and as many are in limbo as it retired and didn't free
pub record AreCounted (m : Moved) (b : Book) : Type 0 where
  pub drawn : m.drawn ≡ shown b.moves.drawn
  pub reused : m.reused ≡ shown b.moves.reused
  pub retired : m.retired ≡ shown b.moves.retired
  pub freed : m.freed ≡ shown b.moves.freed
  pub spent : m.spent ≡ shown (had is_spent b)
  pub limbo : IsLimboLeft b

-- the counts are those of its moves over all its steps, and of its records by where they are now
pub record AreCountsOf (c : Counts) (b : Book) : Type 0 where
  pub drawn : c.drawn ≡ shown b.moves.drawn
  pub reused : c.reused ≡ shown b.moves.reused
  pub retired : c.retired ≡ shown b.moves.retired
  pub freed : c.freed ≡ shown b.moves.freed
  -- before the count of those that it retired stands still
  pub limbo : b.moves.retired < 2 ^ 64 → c.limbo ≡ had is_limbo b
  pub free : c.free ≡ had is_free b
  pub spare : c.spare ≡ had is_spare b
  pub spent : c.spent ≡ shown (had is_spent b)
