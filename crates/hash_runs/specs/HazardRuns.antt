-- What a run on the hash table leaves under hazard pointers.
use Rattle.std.specs.Prelude.{ℕ, List}
use Rattle.set_model.specs.declared.calls.Call.{Call}
use Rattle.set_model.specs.declared.calls.Counts.{Counts}
use Rattle.set_model.specs.declared.calls.Reply.{Reply}
use Rattle.record_table.specs.declared.closing.Closed.{Closed}
use Rattle.record_pieces.specs.Manners.{Manner}
use Rattle.reclaim_hazard.specs.Running.{Enters, Leaves, Bears, Reaches, PutsAway}
use Rattle.hazard_facts.specs.Pointers.{hazard}
use Rattle.hash_runs.specs.HashRuns.{IsRunUnder, manner_of}

-- the steps of its callers
abbrev pub hazard_manner : Manner
hazard_manner = manner_of Enters Leaves Bears Reaches PutsAway

-- such a run
abbrev pub IsHazardRun : ℕ → ℕ → List (List (List Call)) → List (List Reply) → Counts → Closed → Type 0
IsHazardRun records buckets lists replies counts closed = IsRunUnder hazard hazard_manner records buckets lists replies counts closed
