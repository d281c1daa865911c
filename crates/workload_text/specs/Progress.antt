-- How far a text was read.
use Rattle.std.specs.Prelude.{◌≡◌, ℕ, ◌≤◌, List, [], ◌∷◌, ◌++◌, length, map}
use Rattle.std.specs.List.{AllByRecursion}
use Rattle.set_model.specs.declared.calls.Call.{Call}
use Rattle.text_lines.specs.Lines.{line, lines_text}
use Rattle.workload_text.specs.declared.seen.Seen.{Seen}
use Rattle.workload_text.specs.declared.progress.Progress.{Progress}
use Rattle.workload_text.specs.Limits.{HasLawfulKey, lists_of}
use Rattle.workload_text.specs.Cuts.{cut_at, AreCuts, cut_all, AllAreCuts, cuts_of}
use Rattle.text_lines.specs.Calls.{call_text}
use Rattle.workload_text.specs.Text.{Line, version_line, callers_line, caller_line, end_line, callers_lines, spelled, spelled_lines}
use Rattle.workload_text.specs.Following.{at_start, in_caller, first_seen, MayFollow, MayAllFollow, place_after_all}

-- the lines before the calls of the first caller
abbrev pub head_lines : Seen → List Line
head_lines seen = version_line seen.version ∷ callers_line seen.callers ∷ caller_line 0 ∷ []

-- the bytes begin with lawful lines up to the first caller's, and this is behind them
pub record IsHead (bytes : List ℕ) (seen : Seen) (rest : List ℕ) : Type 0 where
  pub follow : MayAllFollow at_start (head_lines seen)
  pub first : seen ≡ first_seen seen.version seen.callers
  pub same : bytes ≡ spelled_lines (head_lines seen) ++ rest

-- the calls of the lines at the front were put behind those before
pub record AreRead (before after : List Call) (bytes : List ℕ) (count : ℕ) (rest : List ℕ) : Type 0 where
  pub read : List Call
  pub items : after ≡ before ++ read
  pub text : bytes ≡ lines_text (map call_text read) ++ rest
  pub keys : AllByRecursion HasLawfulKey read
  pub length_is : length read ≡ count

-- the phases of the callers up to the one whose lines are read
abbrev pub opened : Progress → List (List (List Call))
opened progress = cut_all (lists_of progress.lists.items) (cuts_of progress.cuts.items) ++ cut_at progress.open_cuts.items progress.calls.items ∷ []

-- the lines so far
abbrev pub opened_lines : Progress → List Line
opened_lines progress = version_line progress.seen.version ∷ callers_line progress.seen.callers ∷ callers_lines 0 (opened progress)

-- the bytes begin with lawful lines that were read so, and this is behind them
pub record IsProgress (bytes : List ℕ) (progress : Progress) (rest : List ℕ) : Type 0 where
  pub follow : MayAllFollow at_start (opened_lines progress)
  pub place : place_after_all at_start (opened_lines progress) ≡ in_caller progress.seen
  pub same : bytes ≡ spelled_lines (opened_lines progress) ++ rest
  pub count : progress.lines ≡ length (opened_lines progress)
  pub cut : AllAreCuts (lists_of progress.lists.items) (cuts_of progress.cuts.items)
  pub open_cut : AreCuts 0 progress.open_cuts.items (length progress.calls.items)
  pub callers : length progress.lists.items ≡ progress.seen.caller
  pub calls : length progress.calls.items ≤ progress.seen.calls

-- the line `end` came next, and this is behind it
pub record IsEnded (bytes : List ℕ) (progress : Progress) (rest : List ℕ) : Type 0 where
  pub progress_is : IsProgress bytes progress (line (spelled end_line) ++ rest)
  pub may : MayFollow (in_caller progress.seen) end_line
