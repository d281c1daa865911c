-- A try to hold only adds steps.
use Rattle.std.specs.Prelude.{ℕ}
use Rattle.record_memory.specs.declared.books.Setup.{Setup}
use Rattle.record_memory.specs.declared.books.Book.{Book}
use Rattle.record_table.specs.declared.nodes.Node.{Node}
use Rattle.reclaim_api.specs.declared.holding.Holding.{Holding}
use Rattle.reclaim_api.specs.Frames.{AddsSteps}
use Rattle.reclaim_hazard.specs.Running.{Reaches, stops, confirms}

pub reaches_more : (k : Setup) (place : ℕ) (from : Node) (field : ℕ) (b : Book) (h : Holding) (c : Book) → Reaches k place from field b h c → AddsSteps b c
reaches_more k place from field b h c (stops r) = (_, r.steps)
reaches_more k place from field b h c (confirms r) = (_, r.steps)
