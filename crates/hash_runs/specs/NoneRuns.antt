-- What a run on the hash table leaves where no record is reclaimed.
use Rattle.std.specs.Prelude.{ℕ, List}
use Rattle.set_model.specs.declared.calls.Call.{Call}
use Rattle.set_model.specs.declared.calls.Counts.{Counts}
use Rattle.set_model.specs.declared.calls.Reply.{Reply}
use Rattle.record_table.specs.declared.closing.Closed.{Closed}
use Rattle.record_pieces.specs.Manners.{Manner}
use Rattle.reclaim_api.specs.LinkLoads.{ReachesByLoad}
use Rattle.reclaim_none.specs.Running.{Enters, Leaves, Bears, PutsAway}
use Rattle.cover_facts.specs.Keeping.{none}
use Rattle.hash_runs.specs.HashRuns.{IsRunUnder, manner_of}

-- the steps of its callers
abbrev pub none_manner : Manner
none_manner = manner_of Enters Leaves Bears ReachesByLoad PutsAway

-- such a run
abbrev pub IsNoneRun : ℕ → ℕ → List (List (List Call)) → List (List Reply) → Counts → Closed → Type 0
IsNoneRun records buckets lists replies counts closed = IsRunUnder none none_manner records buckets lists replies counts closed
