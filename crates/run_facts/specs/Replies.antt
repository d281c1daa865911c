-- The replies of a caller beside its answered calls.
use Rattle.std.specs.Prelude.{◌≡◌, ℕ, List, [], ◌∷◌, Some, slice_get}
use Rattle.set_model.specs.declared.calls.Call.{Call}
use Rattle.set_model.specs.declared.calls.Reply.{Reply}
use Rattle.record_memory.specs.declared.books.Book.{Book}
use Rattle.record_memory.specs.declared.books.Guard.{Guard}
use Rattle.record_memory.specs.declared.books.Setup.{Setup}
use Rattle.workload_text.specs.Limits.{calls_of_all}
use Rattle.set_api.specs.declared.answer.Answer.{Answer}
use Rattle.key_sums.specs.Balances.{answered_among, answers_in}
use Rattle.set_runs.specs.Playing.{phases_of}
use Rattle.set_runs.specs.Runs.{IsCallersPlay}

-- each call with its reply
abbrev pub with_replies : List Call → List Reply → List (Call × Reply)
with_replies [] replies = []
with_replies (call ∷ calls) [] = []
with_replies (call ∷ calls) (reply ∷ replies) = (call, reply) ∷ with_replies calls replies

-- The answered calls of the book are the caller's calls in all phases, in order, each with the reply that it was given, but for those that
-- were told that no record is left
abbrev pub AreBooksReplies : List (List Call) → List Reply → Book → Type 0
AreBooksReplies phases replies book = answers_in book.answered ≡ answered_among (with_replies (calls_of_all phases) replies)

-- Each caller's play of its own of these calls, with its replies, leads to its book; callers, replies and books go by number
abbrev pub ArePlays : (Call → ℕ → Answer → Book → Book → Type 0) → ℕ → Setup → Guard → List (List (List Call)) → List (List Reply) → List ℕ → List Book → Type 0
ArePlays steps budget setup first lists replies bounds books = (i : ℕ) (own : List Reply) (book : Book) → slice_get replies i ≡ Some own → slice_get books i ≡ Some book
    → IsCallersPlay steps budget setup first i (phases_of lists i) own bounds book
