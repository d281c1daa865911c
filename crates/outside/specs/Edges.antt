-- What the sources and sinks over std's readers and writers are seen as.
use Rattle.std.specs.Prelude.{ℕ}

-- the reader or the writer, and how often it failed
pub record EdgeState (X : Type 0) : Type 0 where
  pub inner : X
  pub faults : ℕ
