-- What an insertion leaves spare, by the record that it has from its tries.
use Rattle.std.proofs.Common.{◌≡◌, ℕ, zero, suc, ◌+◌, ◌⊎◌, inl, inr, List, ◌++◌, length, true, false, Option, Some, None, sym, subst}
use mathlib.Core.Option.{some-injective, some-ne-none}
use Rattle.set_model.specs.declared.calls.InsertAnswer.{InsertAnswer}
use Rattle.set_model.specs.declared.calls.InsertAnswer.TheVariants.{Done, Full, Again}
use Rattle.record_memory.specs.declared.books.Book.{Book}
use Rattle.record_memory.specs.declared.books.Setup.{Setup}
use Rattle.row_words.specs.Refs.{RefParts}
use Rattle.record_rule.specs.Facts.{At}
use Rattle.record_rule.proofs.Lists.{at_append}
use Rattle.record_pieces.specs.Manners.{Manner}
use Rattle.record_pieces.specs.Spares.{IsSpareIn, KeepsSpares}
use Rattle.record_pieces.specs.Events.{Event, took, gave_back}
use Rattle.record_pieces.specs.Trails.{Trail}
use Rattle.record_pieces.proofs.Stock.{AllKeep}
use Rattle.record_pieces.proofs.Spares.{IsSame, KeepsOthers, takes_others, aside_kept, keep_at}
use Rattle.set_calls.specs.Spares.{GivesBack}
use Rattle.list_calls.specs.Records.{HasRecord, back}

-- the record that these events get is this one, if they get any
abbrev pub Gets : Option RefParts → List Event → Type 0
Gets hand es = (i : ℕ) (r : RefParts) → At es i (took r) → hand ≡ Some r

-- events that keep get none
pub keep_gets : (hand : Option RefParts) (es : List Event) → AllKeep es → Gets hand es
keep_gets hand es all i r at = absurd (keep_at es all i (took r) at)

-- events one after another
pub both_get : (hand : Option RefParts) (es fs : List Event) → Gets hand es → Gets hand fs → Gets hand (es ++ fs)
both_get hand es fs first second i r at = by (at_append es fs i (took r) at)
  where
    by : At es i (took r) ⊎ ((q : ℕ) × (i ≡ length es + q) × At fs q (took r)) → hand ≡ Some r
    by (inl here) = first i r here
    by (inr there) = second there.0 r there.2

same_got : (own r : RefParts) → took own ≡ took r → Some own ≡ Some r
same_got own r e = cc

-- a try that has a record has this one, which it got or an earlier one did
pub record_gets : {own : RefParts} {hand : Option RefParts} {gs : List Event} → HasRecord own hand gs → Gets (Some own) gs
record_gets {own} HasRecord.gets zero r at = same_got own r (some-injective (took own) (took r) at)
record_gets {own} HasRecord.gets (suc i) r at = absurd (some-ne-none (took r) (sym at))
record_gets {own} HasRecord.has i r at = absurd (some-ne-none (took r) (sym at))

pub earlier_gets : {own : RefParts} {hand : Option RefParts} {gs : List Event} (es : List Event) → HasRecord own hand gs → Gets hand es → Gets (Some own) es
earlier_gets es HasRecord.gets before i r at = let bad = before i r at in absurd (cc)
earlier_gets es HasRecord.has before i r at = before i r at

-- none is got where one goes back
pub back_gets : (hand : Option RefParts) → Gets hand (back hand)
back_gets None i r at = absurd (some-ne-none (took r) (sym at))
back_gets (Some own) zero r at = let bad = some-injective (gave_back own) (took r) at in absurd (cc)
back_gets (Some own) (suc i) r at = absurd (some-ne-none (took r) (sym at))

-- all that were spare are, but the own one that the call has from its tries
abbrev pub KeepsBut : Option RefParts → Book → Book → Type 0
KeepsBut None b c = KeepsSpares b c
KeepsBut (Some own) b c = KeepsOthers own b c

pub others_then : (own : RefParts) (b c d : Book) → KeepsOthers own b c → KeepsSpares c d → KeepsOthers own b d
others_then own b c d others kept r was = by (others r was)
  where
    by : IsSpareIn c r ⊎ IsSame r own → IsSpareIn d r ⊎ IsSame r own
    by (inl is) = inl (kept r is)
    by (inr same) = inr same

pub but_then : (hand : Option RefParts) (b c d : Book) → KeepsBut hand b c → KeepsSpares c d → KeepsBut hand b d
but_then None b c d h k = λ r was. k r (h r was)
but_then (Some own) b c d h k = others_then own b c d h k

module _ (m : Manner) (k : Setup) where
  pub record_keeps : (own : RefParts) (hand : Option RefParts) (gs : List Event) (a b c : Book) → HasRecord own hand gs → KeepsBut hand a b → Trail m k gs b c → KeepsOthers own a c
  record_keeps own _ _ a b c HasRecord.gets h t = subst (KeepsOthers own a) t.2 (λ r was. takes_others m k b own t.0 t.1.acts r (h r was))
  record_keeps own _ _ a b c HasRecord.has h t = subst (KeepsOthers own a) t h

  -- after that one goes back, all are, and so is it
  pub back_leaves : (hand : Option RefParts) (b c d : Book) → KeepsBut hand b c → Trail m k (back hand) c d → KeepsSpares b d × ((r : RefParts) → hand ≡ Some r → IsSpareIn d r)
  back_leaves None b c d h t = (subst (KeepsSpares b) t h, λ r is. absurd (cc))
  back_leaves (Some own) b c d h t = (
    subst (KeepsSpares b) t.2 (aside_kept own b c t.0 h t.1.acts.1),
    λ r is. subst (λ (x : Book). IsSpareIn x r) t.2 (subst (IsSpareIn t.0) (own_is own r is) t.1.acts.1.is_spare_now),
  )
    where
      own_is : (a r : RefParts) → Some a ≡ Some r → a ≡ r
      own_is a r e = cc

-- an insertion leaves so much where its guard begins before it and ends behind it
pub around : (answer : InsertAnswer) (es : List Event) (b c d e : Book) → KeepsSpares b c → GivesBack answer es c d → KeepsSpares d e → GivesBack answer es b e
around (Done true) es b c d e first gives last = tt
around (Done false) es b c d e first gives last = record { kept = λ r was. last r (gives.kept r (first r was)); got = λ i r at. last r (gives.got i r at) }
around (Full found) es b c d e first gives last = record { kept = λ r was. last r (gives.kept r (first r was)); got = λ i r at. last r (gives.got i r at) }
around (Again hops) es b c d e first gives last = record { kept = λ r was. last r (gives.kept r (first r was)); got = λ i r at. last r (gives.got i r at) }
