-- What it means that a caller was told that no record is left.
use Rattle.std.specs.Prelude.{◌≡◌, ℕ, ◌+◌, ◌≤◌, List, [], ◌∷◌, ◌++◌, length, sum_by, Some, slice_get}
use Rattle.set_model.specs.declared.calls.Call.{Call}
use Rattle.set_model.specs.declared.calls.Call.TheVariants.{Insert}
use Rattle.set_model.specs.declared.calls.Reply.{Reply}
use Rattle.set_model.specs.declared.calls.Reply.TheVariants as reply
use Rattle.set_model.specs.Machine.{insertions_in}
use Rattle.record_memory.specs.declared.books.Book.{Book}
use Rattle.record_memory.specs.declared.books.Guard.{Guard}
use Rattle.record_memory.specs.declared.books.Setup.{Setup}
use Rattle.record_memory.specs.declared.books.View.{View}
use Rattle.set_api.specs.declared.answer.Answer.{Answer}
use Rattle.set_api.specs.declared.answer.Answer.TheVariants.{Full}
use Rattle.set_api.specs.Turns.{Makes, Repeats, Turn, Met}
use Rattle.workload_text.specs.Limits.{joined}
use Rattle.set_runs.specs.Playing.{phases_of}
use Rattle.set_runs.specs.Runs.{IsCallersPlay}
use Rattle.run_facts.specs.Replies.{with_replies}
use Rattle.run_facts.specs.Unshared.{calls_by}

-- by a set whose calls make these steps, within this budget of hops
module _ (steps : Call → ℕ → Answer → Book → Book → Type 0) (budget : ℕ) where
  -- a caller played these calls, each with its reply, and met others between them
  pub data Goes : List (Call × Reply) → View → View → Type 0 where
    none : {v : View} → Goes [] v v
    turn : {answers : List (Call × Reply)} {u v w : View} {call : Call} {r : Reply} → Goes answers u v → Turn steps budget call r v w → Goes (answers ++ (call, r) ∷ []) u w
    meeting : {answers : List (Call × Reply)} {u v w : View} {bound : ℕ} → Goes answers u v → Met bound v w → Goes answers u w

  -- an insertion of this key was made, again as often as it had to be, until it found no record
  pub record FindsNone (key : ℕ) (u w : View) : Type 0 where
    pub v : View
    pub found : ℕ
    pub repeats : Repeats steps budget (Insert key) u v
    pub last : Makes steps budget (Insert key) (Full found) v w

  -- Of the calls that led from one view to another, the n-th, counted from 0, is an insertion that found no record, with what was played before
  -- it and after
  pub record WasFull (answers : List (Call × Reply)) (n : ℕ) (start left : View) : Type 0 where
    pub key : ℕ
    pub earlier : List (Call × Reply)
    pub later : List (Call × Reply)
    pub answers_are : answers ≡ earlier ++ (Insert key, reply.Full) ∷ later
    pub place : length earlier ≡ n
    pub before : View
    pub behind : View
    pub goes_to : Goes earlier start before
    pub finds_none : FindsNone key before behind
    pub goes_on : Goes later behind left

-- Each reply `Full` of a run is the answer of such an insertion, on the way to the book that is left of its caller
abbrev pub AreCaused : (Call → ℕ → Answer → Book → Book → Type 0) → ℕ → Setup → Guard → List (List (List Call)) → List (List Reply) → List ℕ → List Book → Type 0
AreCaused steps budget setup first lists replies bounds books = (i n : ℕ) (own : List Reply) → slice_get replies i ≡ Some own → slice_get own n ≡ Some reply.Full
    → (book : Book) × (slice_get books i ≡ Some book) × (p : IsCallersPlay steps budget setup first i (phases_of lists i) own bounds book)
    × WasFull steps budget (with_replies (calls_by lists i) own) n p.start p.left

-- There is a record for each root and for each insertion of these lists
abbrev pub HasRoom : Setup → List (List (List Call)) → Type 0
HasRoom setup lists = setup.roots + sum_by insertions_in (joined lists) ≤ setup.records
