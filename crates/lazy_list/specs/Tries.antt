-- What one try of an insertion leaves.
use Rattle.std.specs.Prelude.{ℕ, ◌<◌, List}
use Rattle.record_memory.specs.declared.books.View.{View}
use Rattle.record_pieces.specs.Events.{Event}
use Rattle.manager.specs.Callers.{AnswersNone}
use Rattle.set_calls.specs.Answers.{InsertTells}
use Rattle.list_calls.specs.Records.{OwnsHand}
use Rattle.lazy_list.specs.declared.inserting.Tried.{Tried}
use Rattle.lazy_list.specs.declared.inserting.Tried.TheVariants.{Answered, Refused}
use Rattle.lazy_list.specs.Pieces.{Insertings, Inserts}

-- it was answered, or made a hop and leaves the next one its record
abbrev pub TriedTells : ℕ → ℕ → ℕ → Tried → View → View → Type 0
TriedTells key before after (Answered answer) v w = InsertTells key answer v w
TriedTells key before after (Refused own) v w = (before < after) × AnswersNone v w × OwnsHand w own

-- with the tries before it, after so many hops
abbrev pub TriedDoes : ℕ → ℕ → ℕ → ℕ → List Event → Tried → Type 0
TriedDoes root key budget hops es (Answered answer) = Inserts root key budget answer es
TriedDoes root key budget hops es (Refused own) = Insertings root key hops own es
