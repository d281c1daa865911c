-- What a caller knows of the row of a record whose chain word it owns.
use Rattle.std.specs.Prelude.{ℕ, Option}
use Rattle.row_words.specs.Refs.{RefParts}

pub record Row : Type 0 where
  -- the record after it in its chain
  pub next : Option RefParts
  -- the epoch at which it was handed out
  pub birth : ℕ
  -- what it was retired with
  pub stamp : ℕ

-- the row with another chain word
abbrev pub with_next : Row → Option RefParts → Row
with_next row next = record row { next = next }
