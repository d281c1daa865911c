-- What the sources and sinks in memory are seen as.
use Rattle.std.specs.Prelude.{ℕ, List}

-- A source: the bytes that are left, the numbers of the calls that fail, and how many calls were made and failed.
pub record SourceState : Type 0 where
  pub left : List ℕ
  pub failing : List ℕ
  pub calls : ℕ
  pub faults : ℕ

-- A sink: the bytes that it got, how many it has room for, how many it takes at a call, and the same of its calls.
pub record SinkState : Type 0 where
  pub got : List ℕ
  pub room : ℕ
  pub most : ℕ
  pub failing : List ℕ
  pub calls : ℕ
  pub faults : ℕ
