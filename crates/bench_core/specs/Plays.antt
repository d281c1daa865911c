-- What a run on a plain set reports.
use Rattle.std.specs.Prelude.{◌≡◌, ℕ, zero, suc, ◌+◌, ◌≤◌, cond, eqb, Some, List, [], ◌∷◌, ◌++◌, length, flat_map, slice_get, slice_index_or, vec_capacity}
use Rattle.std.specs.Global.{Vec}
use Rattle.set_model.specs.declared.calls.Call.{Call}
use Rattle.set_model.specs.declared.calls.Counts.{Counts}
use Rattle.set_model.specs.declared.calls.Reply.{Reply}
use Rattle.set_model.specs.declared.names.SetName.TheVariants.{Plain}
use Rattle.set_model.specs.declared.names.ReclaimerName.TheVariants.{Nothing}
use Rattle.set_model.specs.Keys.{Keys, empty, size_of, sum_of}
use Rattle.set_model.specs.Machine.{replies_of, keys_after_all}
use Rattle.report_text.specs.declared.report.Played.{Played}
use Rattle.report_text.specs.declared.report.Report.{Report}
use Rattle.paired_replies.specs.Pairs.{calls_of}
use Rattle.workload_text.specs.Limits.{Plan, joined, phase_lines}

-- no record was touched
abbrev pub no_counts : Counts
no_counts = record { drawn = 0; reused = 0; retired = 0; freed = 0; limbo = 0; free = 0; spare = 0; spent = 0 }

-- Calls of one caller that are played one after another, with no other caller's between them.
pub record Piece : Type 0 where
  pub caller : ℕ
  pub calls : List Call

-- of each caller its calls in this phase, in order of the callers' numbers, of which the first is given
abbrev pub pieces_in : ℕ → List (List (List Call)) → ℕ → List Piece
pieces_in phase [] caller = []
pieces_in phase (phases ∷ lists) caller = record { caller = caller; calls = slice_index_or phases phase [] } ∷ pieces_in phase lists (suc caller)

-- the same for each of so many phases from this one on, one phase after another
abbrev pub pieces_over : ℕ → ℕ → List (List (List Call)) → List Piece
pieces_over phase zero lists = []
pieces_over phase (suc count) lists = pieces_in phase lists 0 ++ pieces_over (suc phase) count lists

-- the order of play: phase by phase, and in each phase one caller after another, in order of number
abbrev pub order_of : List (List (List Call)) → List Piece
order_of lists = pieces_over 0 (phase_lines lists + 1) lists

-- all calls, in this order
abbrev pub called : List Piece → List Call
called pieces = flat_map (λ piece. piece.calls) pieces

-- what this caller is told of its own calls when all pieces are played in order, from these keys on
abbrev pub told_to : ℕ → List Piece → Keys → List Reply
told_to caller [] keys = []
told_to caller (piece ∷ pieces) keys = cond (eqb piece.caller caller) (replies_of piece.calls keys) [] ++ told_to caller pieces (keys_after_all piece.calls keys)

-- the keys that are left behind the last phase
abbrev pub keys_left : List (List (List Call)) → Keys
keys_left lists = keys_after_all (called (order_of lists)) empty

-- there is a list for each caller, which holds no reply yet and has room for one to each of the caller's calls
pub record AreReady (lists : List (List (List Call))) (replies : List (Vec Reply)) : Type 0 where
  pub count : length replies ≡ length lists
  pub room : (caller : ℕ) (own : Vec Reply) → slice_get replies caller ≡ Some own
      → (own.items ≡ []) × (length (slice_index_or (joined lists) caller []) ≤ vec_capacity own)

-- there is a list for each caller, which holds what the caller was told
pub record AreTold (lists : List (List (List Call))) (replies : List (Vec Reply)) : Type 0 where
  pub count : length replies ≡ length lists
  pub told : (caller : ℕ) (own : Vec Reply) → slice_get replies caller ≡ Some own → own.items ≡ told_to caller (order_of lists) empty

-- each caller was told what the set machine answers to its calls alone, from no key on
abbrev pub AreAlone : List Played → Type 0
AreAlone callers = (caller : ℕ) (played : Played) → slice_get callers caller ≡ Some played → played.replies ≡ replies_of played.calls empty

-- The report is of these calls, played on a plain set phase by phase, and in each phase one caller after another: the
-- set machine, which starts empty, gives each reply, the number of keys and their sum.
pub record IsPlainRun (plan : Plan) (report : Report) : Type 0 where
  pub set : report.set ≡ Plain
  pub reclaimer : report.reclaimer ≡ Nothing
  pub calls : calls_of report.callers ≡ joined plan.lists
  pub replies : (caller : ℕ) (played : Played) → slice_get report.callers caller ≡ Some played → played.replies ≡ told_to caller (order_of plan.lists) empty
  pub size : report.size ≡ size_of (keys_left plan.lists)
  pub sum : report.sum ≡ sum_of (keys_left plan.lists)
  pub counts : report.counts ≡ no_counts
