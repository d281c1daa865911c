-- What a call of the table does, by its kind: what the list in the bucket of its key does.
use Rattle.std.specs.Prelude.{◌≡◌, ℕ, List, [], ◌∷◌, ◌++◌}
use Rattle.set_model.specs.declared.calls.Call.{Call}
use Rattle.set_model.specs.declared.calls.Call.TheVariants.{Insert, Remove, Search}
use Rattle.set_model.specs.declared.calls.InsertAnswer.{InsertAnswer}
use Rattle.set_model.specs.declared.calls.LookAnswer.{LookAnswer}
use Rattle.record_memory.specs.declared.books.Setup.{Setup}
use Rattle.record_memory.specs.declared.books.Book.{Book}
use Rattle.record_pieces.specs.Manners.{Manner}
use Rattle.record_pieces.specs.Events.{Event, begun, ended}
use Rattle.record_pieces.specs.Trails.{Trail}
use Rattle.set_api.specs.declared.answer.Answer.{Answer}
use Rattle.set_api.specs.Answers.{of_insertion, of_look}
use Rattle.michael_list.specs.Pieces.{Inserts, Removes, Searches}
use Rattle.michael_hash.specs.Buckets.{bucket_of}

-- the events of a call within a budget of hops, between the begin and the end of its guard, and its answer
abbrev pub IsPiece : Setup → Call → ℕ → Answer → List Event → Type 0
IsPiece setup (Insert key) budget answer es = (given : InsertAnswer) × (answer ≡ of_insertion given) × Inserts (bucket_of setup key) key budget given es
IsPiece setup (Remove key) budget answer es = (given : LookAnswer) × (answer ≡ of_look given) × Removes (bucket_of setup key) key budget given es
IsPiece setup (Search key) budget answer es = (given : LookAnswer) × (answer ≡ of_look given) × Searches (bucket_of setup key) key budget given es

-- the call is one guard with these events, from its caller's book before to the book after
abbrev pub MakesPiece : Manner → Setup → Call → ℕ → Answer → Book → Book → Type 0
MakesPiece m setup call budget answer b c = (es : List Event) × IsPiece setup call budget answer es × Trail m setup (begun ∷ es ++ ended ∷ []) b c
