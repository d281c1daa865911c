-- What a run on the hash table leaves under DEBRA.
use Rattle.std.specs.Prelude.{ℕ, List}
use Rattle.set_model.specs.declared.calls.Call.{Call}
use Rattle.set_model.specs.declared.calls.Counts.{Counts}
use Rattle.set_model.specs.declared.calls.Reply.{Reply}
use Rattle.record_table.specs.declared.closing.Closed.{Closed}
use Rattle.record_pieces.specs.Manners.{Manner}
use Rattle.reclaim_api.specs.LinkLoads.{ReachesByLoad}
use Rattle.reclaim_debra.specs.Running.{Enters, Leaves, Bears, PutsAway}
use Rattle.debra_facts.specs.Debra.{debra}
use Rattle.hash_runs.specs.HashRuns.{IsRunUnder, manner_of}

-- the steps of its callers
abbrev pub debra_manner : Manner
debra_manner = manner_of Enters Leaves Bears ReachesByLoad PutsAway

-- such a run
abbrev pub IsDebraRun : ℕ → ℕ → List (List (List Call)) → List (List Reply) → Counts → Closed → Type 0
IsDebraRun records buckets lists replies counts closed = IsRunUnder debra debra_manner records buckets lists replies counts closed
