-- What a run on the hash table leaves under 2GEIBR.
use Rattle.std.specs.Prelude.{ℕ, List}
use Rattle.set_model.specs.declared.calls.Call.{Call}
use Rattle.set_model.specs.declared.calls.Counts.{Counts}
use Rattle.set_model.specs.declared.calls.Reply.{Reply}
use Rattle.record_table.specs.declared.closing.Closed.{Closed}
use Rattle.record_pieces.specs.Manners.{Manner}
use Rattle.reclaim_ibr.specs.Running.{Enters, Leaves, Bears, Reaches}
use Rattle.reclaim_ibr.specs.Retiring.{PutsAway}
use Rattle.ibr_facts.specs.Keeping.{ibr}
use Rattle.hash_runs.specs.HashRuns.{IsRunUnder, manner_of}

-- the steps of its callers
abbrev pub ibr_manner : Manner
ibr_manner = manner_of Enters Leaves Bears Reaches PutsAway

-- such a run
abbrev pub IsIbrRun : ℕ → ℕ → List (List (List Call)) → List (List Reply) → Counts → Closed → Type 0
IsIbrRun records buckets lists replies counts closed = IsRunUnder ibr ibr_manner records buckets lists replies counts closed
