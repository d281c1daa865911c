-- No call of the hash table leaves a record in its caller's hand.
use Rattle.std.proofs.Common.{ℕ, [], ◌∷◌, ◌++◌, List, refl}
use Rattle.set_model.specs.declared.calls.Call.{Call}
use Rattle.set_model.specs.declared.calls.Call.TheVariants.{Insert, Remove, Search}
use Rattle.record_memory.specs.declared.books.Setup.{Setup}
use Rattle.record_pieces.specs.Manners.{Manner}
use Rattle.record_pieces.specs.Events.{Event, begun, ended}
use Rattle.record_pieces.proofs.Hands.{Hands, hands_both, hands_stay}
use Rattle.set_api.specs.declared.answer.Answer.{Answer}
use Rattle.set_api.specs.Hands.{LeavesNoneInHand}
use Rattle.michael_list.proofs.Hands.{inserts_balance, removes_balance, searches_balance}
use Rattle.michael_hash.specs.Pieces.{IsPiece, MakesPiece}

module _ (m : Manner) (k : Setup) where
  -- as many come into the hand as leave it
  piece_balances : (call : Call) (budget : ℕ) (answer : Answer) (es : List Event) → IsPiece k call budget answer es → Hands 0 es 0
  piece_balances (Insert key) budget answer es piece = inserts_balance piece.2
  piece_balances (Remove key) budget answer es piece = removes_balance piece.2
  piece_balances (Search key) budget answer es piece = searches_balance piece.2

  -- between the begin and the end of its guard, too
  guarded : (es : List Event) → Hands 0 es 0 → Hands 0 (begun ∷ es ++ ended ∷ []) 0
  guarded es h = hands_both {es = begun ∷ []} (record { sums = refl }) (hands_both h (record { sums = refl }))

  pub leaves_none_in_hand : LeavesNoneInHand (MakesPiece m k)
  leaves_none_in_hand = record { same = λ call budget answer b c h. hands_stay m k (begun ∷ h.0 ++ ended ∷ []) b c (guarded h.0 (piece_balances call budget answer h.0 h.1)) h.2 }
