-- A birth and a try to hold only add steps.
use Rattle.std.proofs.Common.{append_assoc, ◌∙◌}
use Rattle.std.specs.Prelude.{ℕ}
use Rattle.record_memory.specs.declared.books.Setup.{Setup}
use Rattle.record_memory.specs.declared.books.Book.{Book}
use Rattle.record_table.specs.declared.nodes.Node.{Node}
use Rattle.reclaim_api.specs.declared.holding.Holding.{Holding}
use Rattle.reclaim_api.specs.Frames.{AddsSteps}
use Rattle.reclaim_ibr.specs.Running.{Bears, Reaches, stops, confirms, raises}

pub bears_more : (k : Setup) (b : Book) (n : ℕ) (c : Book) → Bears k b n c → AddsSteps b c
bears_more k b n c h = (_, h.steps ∙ append_assoc b.steps h.made _)

pub reaches_more : (k : Setup) (place : ℕ) (from : Node) (field : ℕ) (b : Book) (h : Holding) (c : Book) → Reaches k place from field b h c → AddsSteps b c
reaches_more k place from field b h c (stops r) = (_, r.steps)
reaches_more k place from field b h c (confirms r) = (_, r.steps)
reaches_more k place from field b h c (raises r) = (_, r.steps)
