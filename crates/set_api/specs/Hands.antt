-- The calls of a set leave no record in their caller's hand.
use Rattle.std.specs.Prelude.{◌≡◌, ℕ}
use Rattle.set_model.specs.declared.calls.Call.{Call}
use Rattle.record_memory.specs.declared.books.Book.{Book}
use Rattle.record_pieces.specs.Hands.{in_hand}
use Rattle.set_api.specs.declared.answer.Answer.{Answer}

-- Calls that make these steps, whatever they answer, leave as many records in hand as there were
pub record LeavesNoneInHand (steps : Call → ℕ → Answer → Book → Book → Type 0) : Type 0 where
  pub same : (call : Call) (budget : ℕ) (answer : Answer) (b c : Book) → steps call budget answer b c → in_hand c ≡ in_hand b
