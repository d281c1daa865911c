-- What a call of a list leaves of its caller's stock of records: an insertion takes one record at most.
use Rattle.std.proofs.Common.{◌≡◌, ◌+◌, ◌≤◌, ◌⊎◌, inl, inr, ⊎_elim, List, Option, Some, None, sym, ◌∙◌, subst, arith}
use Rattle.set_model.specs.declared.calls.InsertAnswer.{InsertAnswer}
use Rattle.set_model.specs.declared.calls.InsertAnswer.TheVariants.{Done, Full, Again}
use Rattle.record_memory.specs.declared.books.Book.{Book}
use Rattle.record_memory.specs.declared.books.Setup.{Setup}
use Rattle.record_rule.specs.Standings.{is_spare}
use Rattle.reclaim_api.specs.Frames.{had}
use Rattle.row_words.specs.Refs.{RefParts}
use Rattle.record_pieces.specs.Manners.{Manner}
use Rattle.record_pieces.specs.Events.{Event, KeepsStock, Gets, from_free, from_pool, from_draw, Takes, from_spare, handed, FindsNone}
use Rattle.record_pieces.specs.Trails.{Trail}
use Rattle.record_pieces.proofs.Stock.{same_stock, stock_then}
use Rattle.list_calls.specs.Records.{HasRecord, back}

-- the caller took a spare record, or drew one at most where it had none
pub record TookOne (b c : Book) : Type 0 where
  pub took : ((had is_spare b ≡ had is_spare c + 1) × (c.moves.drawn ≡ b.moves.drawn)) ⊎ ((had is_spare b ≡ 0) × (had is_spare c ≡ 0) × (c.moves.drawn ≤ b.moves.drawn + 1))

-- it drew one at most, and none where it had a spare one
pub record DrewOne (b c : Book) : Type 0 where
  pub one : c.moves.drawn ≤ b.moves.drawn + 1
  pub spare_first : 1 ≤ had is_spare b → c.moves.drawn ≡ b.moves.drawn

-- and has as many more spare ones as it drew
pub record GaveBack (b c : Book) : Type 0 where
  pub drew : DrewOne b c
  pub given_back : c.moves.drawn + had is_spare b ≤ b.moves.drawn + had is_spare c

pub took_drew : {b c : Book} → TookOne b c → DrewOne b c
took_drew h = ⊎_elim
    (λ x. record { one = omega (arith, x.1); spare_first = λ some. x.1 })
    (λ x. record { one = x.2; spare_first = λ some. absurd (omega (arith, x.0, some)) })
    h.took

pub kept_gave : {b c : Book} → KeepsStock b c → GaveBack b c
kept_gave h = record { drew = record { one = omega (arith, h.drawn); spare_first = λ some. h.drawn }; given_back = omega (arith, h.drawn, h.spare) }

pub took_then : {b c d : Book} → TookOne b c → KeepsStock c d → TookOne b d
took_then h k = ⊎_elim
    (λ x. record { took = inl (omega (arith, x.0, k.spare), k.drawn ∙ x.1) })
    (λ x. record { took = inr (x.0, k.spare ∙ x.1, omega (arith, k.drawn, x.2)) })
    h.took

then_took : {b c d : Book} → KeepsStock b c → TookOne c d → TookOne b d
then_took k h = ⊎_elim
    (λ x. record { took = inl (sym k.spare ∙ x.0, x.1 ∙ k.drawn) })
    (λ x. record { took = inr (sym k.spare ∙ x.0, x.1, omega (arith, k.drawn, x.2)) })
    h.took

took_gave : {b c d : Book} → TookOne b c → had is_spare d ≡ had is_spare c + 1 → d.moves.drawn ≡ c.moves.drawn → GaveBack b d
took_gave h more same = ⊎_elim
    (λ x. record { drew = record { one = omega (arith, x.1, same); spare_first = λ some. same ∙ x.1 }; given_back = omega (arith, x.0, x.1, more, same) })
    (λ x. record { drew = record { one = omega (arith, x.2, same); spare_first = λ some. absurd (omega (arith, x.0, some)) }; given_back = omega (arith, x.0, x.1, x.2, more, same) })
    h.took

pub gave_then : {b c d : Book} → GaveBack b c → KeepsStock c d → GaveBack b d
gave_then h k = record {
  drew = record { one = omega (arith, h.drew.one, k.drawn); spare_first = λ some. k.drawn ∙ h.drew.spare_first some };
  given_back = omega (arith, h.given_back, k.drawn, k.spare);
}

pub then_gave : {b c d : Book} → KeepsStock b c → GaveBack c d → GaveBack b d
then_gave k h = record {
  drew = record { one = omega (arith, h.drew.one, k.drawn); spare_first = λ some. h.drew.spare_first (omega (arith, some, k.spare)) ∙ k.drawn };
  given_back = omega (arith, h.given_back, k.drawn, k.spare);
}

pub then_drew : {b c d : Book} → KeepsStock b c → DrewOne c d → DrewOne b d
then_drew k h = record { one = omega (arith, h.one, k.drawn); spare_first = λ some. h.spare_first (omega (arith, some, k.spare)) ∙ k.drawn }

pub drew_then : {b c d : Book} → DrewOne b c → KeepsStock c d → DrewOne b d
drew_then h k = record { one = omega (arith, h.one, k.drawn); spare_first = λ some. k.drawn ∙ h.spare_first some }

-- by the own record that the call has from its tries
abbrev pub HasTaken : Option RefParts → Book → Book → Type 0
HasTaken None b c = KeepsStock b c
HasTaken (Some own) b c = TookOne b c

pub taken_then : (hand : Option RefParts) (b c d : Book) → HasTaken hand b c → KeepsStock c d → HasTaken hand b d
taken_then None b c d h k = stock_then h k
taken_then (Some own) b c d h k = took_then h k

module _ (m : Manner) (k : Setup) where
  gets_drew : {b c : Book} {r : RefParts} → Gets m k b r c → c.moves.drawn ≤ b.moves.drawn + 1
  gets_drew (from_free n c was one counts) = omega (arith, counts.drawn)
  gets_drew (from_pool d n c none came was one counts) = omega (arith, counts.drawn)
  gets_drew (from_draw d c none came drew counts) = omega (arith, counts.drawn)

  takes_one : (b c : Book) (r : RefParts) → Takes m k b r c → TookOne b c
  takes_one b c r (from_spare d birth n bears one taken) = record { took = inl (taken.spare, taken.counts.drawn) }
  takes_one b c r (handed d e birth none gets same bears hands counts left) = record { took = inr (none, left, omega (arith, gets_drew gets, counts.drawn)) }

  -- the try has a record, got by it or by an earlier one
  pub record_taken : (own : RefParts) (hand : Option RefParts) (gs : List Event) (a b c : Book) → HasRecord own hand gs → HasTaken hand a b → Trail m k gs b c → TookOne a c
  record_taken own _ _ a b c HasRecord.gets h t = then_took h (took_then (takes_one b t.0 own t.1.acts) (subst (KeepsStock t.0) t.2 (same_stock t.0)))
  record_taken own _ _ a b c HasRecord.has h t = subst (TookOne a) t h

  -- a record that is left over goes back
  pub back_gives : (hand : Option RefParts) (b c d : Book) → HasTaken hand b c → Trail m k (back hand) c d → GaveBack b d
  back_gives None b c d h t = kept_gave (subst (KeepsStock b) t h)
  back_gives (Some own) b c d h t = subst (GaveBack b) t.2 (took_gave h t.1.acts.1.spare t.1.acts.1.drawn)

  -- what an insertion leaves of the stock, by its answer
  abbrev pub Leaves : InsertAnswer → Book → Book → Type 0
  Leaves (Done added) b c = DrewOne b c
  Leaves (Full n) b c = KeepsStock b c × (d : Book) × (e : Book) × KeepsStock b d × (e ≡ c) × FindsNone m k d n e
  Leaves (Again hops) b c = GaveBack b c
