-- Runs on a table of records: how many records it has, and what such a run reports.
use Rattle.std.specs.Prelude.{ℕ, ◌+◌, ◌≤◌, List, All, length, sum_by, min, Option, Some, None, IfSome}
use Rattle.set_model.specs.declared.calls.Call.{Call}
use Rattle.set_model.specs.declared.names.SetName.{SetName}
use Rattle.set_model.specs.declared.names.SetName.TheVariants.{Plain, Michael, Lazy}
use Rattle.set_model.specs.Machine.{insertions_in}
use Rattle.command_words.specs.declared.command.PlayWords.{PlayWords}
use Rattle.michael_hash.specs.Pieces.{MakesPiece}
use Rattle.paired_replies.specs.Pairs.{replies_to}
use Rattle.record_pieces.specs.Manners.{Manner}
use Rattle.record_rule.specs.Facts.{CoverFacts}
use Rattle.record_table.specs.Closing.{closed_books}
use Rattle.record_table.specs.declared.closing.Closed.{Closed}
use Rattle.report_text.specs.declared.report.Played.{Played}
use Rattle.report_text.specs.declared.report.Report.{Report}
use Rattle.hash_runs.specs.HashRuns.{IsRunUnder, hash_setup, hops_for}
use Rattle.list_facts.specs.Michael.{michael}
use Rattle.run_facts.specs.Fullness.{AreCaused}
use Rattle.run_facts.specs.Unshared.{NoneIsFull}
use Rattle.workload_text.specs.Limits.{joined}
use Rattle.table_reports.specs.History.{IsOneHistory}
use Rattle.table_reports.specs.Reports.{TellsCounts, TellsKeys, RepliesAddUp}

-- how many calls insert, of all callers together
abbrev pub all_insertions : List (List (List Call)) → ℕ
all_insertions lists = sum_by insertions_in (joined lists)

-- how many records are roots: a hash table's buckets, or the head of a list
abbrev pub roots_in : SetName → ℕ → ℕ
roots_in Plain buckets = 0
roots_in Michael buckets = buckets
roots_in Lazy buckets = 1

-- how many records so many insertions may use on a set with so many roots; a plain set has none
abbrev pub needed : SetName → ℕ → ℕ → ℕ
needed Plain roots insertions = 0
needed Michael roots insertions = roots + insertions
needed Lazy roots insertions = roots + insertions

-- the same on the set that the words choose
abbrev pub needed_for : PlayWords → ℕ → ℕ
needed_for chosen insertions = needed chosen.set (roots_in chosen.set chosen.buckets) insertions

-- how many records the table has: as many as the words choose, or as are needed, up to the most there may be
abbrev pub records_chosen : Option ℕ → ℕ → ℕ
records_chosen (Some records) need = records
records_chosen None need = min need 1048575

abbrev pub records_for : PlayWords → ℕ → ℕ
records_for chosen insertions = records_chosen chosen.records (needed_for chosen insertions)

-- the words choose as many records as so many insertions may use, or leave it to the program how many there are
abbrev pub HasEnough : PlayWords → ℕ → Type 0
HasEnough chosen insertions = IfSome chosen.records (λ records. needed_for chosen insertions ≤ records)

-- The callers played these lists on a hash table, under the reclaimer with these facts and this manner, and closed it. The
-- counts are those of that run, the replies are those of the closed table's one history, and so are the number of keys and
-- their sum, which are also what the replies add up to.
pub record IsHashRun (c : CoverFacts) (m : Manner) (chosen : PlayWords) (lists : List (List (List Call))) (report : Report) (closed : Closed) : Type 0 where
  pub played : IsRunUnder c m (records_for chosen (all_insertions lists)) chosen.buckets lists (replies_to report.callers) report.counts closed
  pub history : IsOneHistory michael lists report.callers closed
  pub keys : TellsKeys closed report
  pub adds_up : RepliesAddUp report
  pub counts : TellsCounts closed report.counts
  -- a reply `full` has its cause
  pub caused : AreCaused (MakesPiece m (hash_setup c (records_for chosen (all_insertions lists)) chosen.buckets (length lists))) (hops_for (records_for chosen (all_insertions lists)))
      (hash_setup c (records_for chosen (all_insertions lists)) chosen.buckets (length lists)) c.first lists (replies_to report.callers) played.bounds (closed_books closed)
  -- and where the records are enough, none is there
  pub enough : HasEnough chosen (all_insertions lists) → All NoneIsFull (replies_to report.callers)

-- The printed replies are those of the one history of the table that was closed, by the facts of its set. A set that joins
-- adds a case; a plain one has no table
abbrev pub HasOneHistory : SetName → List (List (List Call)) → List Played → Closed → Type 0
HasOneHistory Plain lists callers closed = ⊥
HasOneHistory Michael lists callers closed = IsOneHistory michael lists callers closed
HasOneHistory Lazy lists callers closed = ⊥
