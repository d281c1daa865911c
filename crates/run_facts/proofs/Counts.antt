-- After a run on a set whose calls leave no record in their caller's hand, the callers' moves are what the rows and the history show.
use Rattle.std.proofs.Common.{◌≡◌, ℕ, zero, suc, ◌+◌, ◌-◌, List, [], ◌∷◌, refl, sym, ◌∙◌, arith}
use Rattle.std.specs.List.{sum_by}
use Rattle.std.proofs.lemmas.List.Sums.{sum_by-cons}
use Rattle.set_model.specs.declared.calls.Call.{Call}
use Rattle.set_model.specs.declared.calls.Counts.{Counts}
use Rattle.set_model.specs.declared.calls.Reply.{Reply}
use Rattle.record_memory.specs.declared.books.Book.{Book}
use Rattle.record_memory.specs.declared.books.Place.{Place}
use Rattle.record_memory.specs.declared.books.Place.TheVariants.{Undrawn, Root, Linked, Shelved, Of}
use Rattle.record_memory.specs.declared.books.Setup.{Setup}
use Rattle.record_memory.specs.declared.books.Standing.TheVariants.{Handing, Own, Spare, TakenOut, Limbo, Free, Spent}
use Rattle.record_rule.specs.Counts.{drawn_as, retired_as, was_drawn, times_retired, lives_before}
use Rattle.record_rule.specs.Facts.{At, ShapeFacts, CoverFacts}
use Rattle.record_rule.specs.Inputs.{taken_at, taken_cell}
use Rattle.record_rule.specs.PlaceCounts.{count_in, drawn_in, reused_in}
use Rattle.record_rule.specs.Records.{Record}
use Rattle.record_rule.specs.Standings.{is_linked, is_shelved, is_had, is_handing, is_own, is_spare, is_taken_out, is_limbo, is_free, is_spent}
use Rattle.record_rule.specs.Taken.{generation_of}
use Rattle.record_rule.proofs.CountingPlaces.{bit, in_cons}
use Rattle.record_table.specs.Closing.{closed_books, closed_setup}
use Rattle.record_table.specs.declared.closing.Closed.{Closed}
use Rattle.list_facts.specs.ClosedLists.{IsListSet}
use Rattle.list_facts.proofs.ListEnds.{closed_lists}
use Rattle.record_pieces.specs.Hands.{is_in_hand, in_hand}
use Rattle.manager.proofs.CallerSums.{callers_had}
use Rattle.manager.proofs.Sums.{moves_add_up}
use Rattle.set_api.specs.declared.answer.Answer.{Answer}
use Rattle.set_api.specs.Hands.{LeavesNoneInHand}
use Rattle.set_runs.specs.Runs.{IsSetRun}
use Rattle.run_facts.specs.Counts.{ShowsMoves}
use Rattle.run_facts.proofs.Hands.{run_hands_free}
use Rattle.run_facts.proofs.Shelved.{on_shelves_are}
use Rattle.run_facts.proofs.Unreclaimed.{sum_zero}

-- what a place counts for where it is drawn
drawn_bits : (p : Place)
    → drawn_as p ≡ bit (is_linked p) + bit (is_shelved p) + (bit (is_had is_handing p) + bit (is_had is_own p) + bit (is_had is_spare p) + bit (is_had is_taken_out p)) + (bit (is_had is_limbo p) + bit (is_had is_free p) + bit (is_had is_spent p))
drawn_bits Undrawn = refl
drawn_bits Root = refl
drawn_bits Linked = refl
drawn_bits (Shelved k) = refl
drawn_bits (Of c (Handing n)) = refl
drawn_bits (Of c Own) = refl
drawn_bits (Of c Spare) = refl
drawn_bits (Of c TakenOut) = refl
drawn_bits (Of c Limbo) = refl
drawn_bits (Of c Free) = refl
drawn_bits (Of c Spent) = refl

drawn_sum : (l : List Record) → sum_by was_drawn l ≡ drawn_in l
drawn_sum [] = refl
drawn_sum (r ∷ rs) = omega (
  arith,
  drawn_sum rs,
  drawn_bits r.place,
  sum_by-cons was_drawn r rs,
  in_cons is_linked r rs,
  in_cons is_shelved r rs,
  in_cons (is_had is_handing) r rs,
  in_cons (is_had is_own) r rs,
  in_cons (is_had is_spare) r rs,
  in_cons (is_had is_taken_out) r rs,
  in_cons (is_had is_limbo) r rs,
  in_cons (is_had is_free) r rs,
  in_cons (is_had is_spent) r rs,
)

-- and where it is in hand
hand_bits : (p : Place) → bit (is_had is_in_hand p) ≡ bit (is_had is_handing p) + bit (is_had is_own p) + bit (is_had is_taken_out p)
hand_bits Undrawn = refl
hand_bits Root = refl
hand_bits Linked = refl
hand_bits (Shelved k) = refl
hand_bits (Of c (Handing n)) = refl
hand_bits (Of c Own) = refl
hand_bits (Of c Spare) = refl
hand_bits (Of c TakenOut) = refl
hand_bits (Of c Limbo) = refl
hand_bits (Of c Free) = refl
hand_bits (Of c Spent) = refl

hand_sum : (l : List Record) → count_in (is_had is_in_hand) l ≡ count_in (is_had is_handing) l + count_in (is_had is_own) l + count_in (is_had is_taken_out) l
hand_sum [] = refl
hand_sum (r ∷ rs) = omega (arith, hand_sum rs, hand_bits r.place, in_cons (is_had is_in_hand) r rs, in_cons (is_had is_handing) r rs, in_cons (is_had is_own) r rs, in_cons (is_had is_taken_out) r rs)

-- the generations that a record had before this one
lives_are : (first : ℕ) (r : Record) (p : Place) → (p ≡ Undrawn → r.generation + 1 ≡ first) → r.generation - first ≡ generation_of (taken_at p r) - first
lives_are first r Undrawn unborn = omega (arith, unborn refl)
lives_are first r Root unborn = refl
lives_are first r Linked unborn = refl
lives_are first r (Shelved k) unborn = refl
lives_are first r (Of c (Handing n)) unborn = refl
lives_are first r (Of c Own) unborn = refl
lives_are first r (Of c Spare) unborn = refl
lives_are first r (Of c TakenOut) unborn = refl
lives_are first r (Of c Limbo) unborn = refl
lives_are first r (Of c Free) unborn = refl
lives_are first r (Of c Spent) unborn = refl

-- whether it was retired at this one
retired_bits : (p : Place) → retired_as p ≡ bit (is_shelved p) + (bit (is_had is_limbo p) + bit (is_had is_free p) + bit (is_had is_spent p))
retired_bits Undrawn = refl
retired_bits Root = refl
retired_bits Linked = refl
retired_bits (Shelved k) = refl
retired_bits (Of c (Handing n)) = refl
retired_bits (Of c Own) = refl
retired_bits (Of c Spare) = refl
retired_bits (Of c TakenOut) = refl
retired_bits (Of c Limbo) = refl
retired_bits (Of c Free) = refl
retired_bits (Of c Spent) = refl

module _ (setup : Setup) where
  abbrev AreUnborn : List Record → Type 0
  AreUnborn l = (i : ℕ) (r : Record) → At l i r → r.place ≡ Undrawn → r.generation + 1 ≡ setup.first

  lives_sum : (l : List Record) → AreUnborn l → sum_by (lives_before setup.first) l ≡ reused_in setup l
  lives_sum [] unborn = refl
  lives_sum (r ∷ rs) unborn = omega (
    arith,
    lives_sum rs (λ i q at. unborn (suc i) q at),
    lives_are setup.first r r.place (unborn zero r refl),
    sum_by-cons (lives_before setup.first) r rs,
    sum_by-cons (λ (x : Record). generation_of (taken_cell x) - setup.first) r rs,
  )

  retired_sum : (l : List Record) → sum_by (times_retired setup.first) l ≡ sum_by (lives_before setup.first) l + (count_in is_shelved l + (count_in (is_had is_limbo) l + count_in (is_had is_free) l + count_in (is_had is_spent) l))
  retired_sum [] = refl
  retired_sum (r ∷ rs) = omega (
    arith,
    retired_sum rs,
    retired_bits r.place,
    sum_by-cons (times_retired setup.first) r rs,
    sum_by-cons (lives_before setup.first) r rs,
    in_cons is_shelved r rs,
    in_cons (is_had is_limbo) r rs,
    in_cons (is_had is_free) r rs,
    in_cons (is_had is_spent) r rs,
  )

module _ {s : ShapeFacts} {c : CoverFacts} {steps : Setup → Call → ℕ → Answer → Book → Book → Type 0} {budget : ℕ} {setup : Setup} {lists : List (List (List Call))} {replies : List (List Reply)} {counts : Counts} {closed : Closed}
    (run : IsSetRun s c steps budget setup lists replies counts closed) (none : LeavesNoneInHand (steps setup)) where
  abbrev records : List Record
  records = run.fits.records

  abbrev k : Setup
  k = closed_setup closed

  none_in_hand : count_in (is_had is_in_hand) records ≡ 0
  none_in_hand = sym (callers_had is_in_hand k records (closed_books closed) _ run.fits.placed) ∙ sum_zero in_hand (closed_books closed) (run_hands_free run none)

  none_handing : count_in (is_had is_handing) records ≡ 0
  none_handing = omega (arith, none_in_hand, hand_sum records)

  pub counts_fit : IsListSet s → ShowsMoves closed
  counts_fit list_set = let l = closed_lists list_set run.fits in let f = run.fits.counted in let m = run.fits.moved in let shelved = on_shelves_are closed records (closed_books closed) run.fits.placed in record {
    records = records;
    taken_out = run.fits.taken_out;
    lists = l;
    drawn = omega (arith, f.drawn none_handing, m.drawn, drawn_sum records);
    reused = m.reused ∙ lives_sum k records (λ i r at. (run.fits.placed.sound i r at).unborn) ∙ sym (f.reused none_handing);
    retired = omega (arith, l.balance, f.takings, m.retired, retired_sum k records, lives_sum k records (λ i r at. (run.fits.placed.sound i r at).unborn), none_in_hand, hand_sum records);
    places = omega (
      arith,
      m.drawn,
      drawn_sum records,
      none_in_hand,
      hand_sum records,
      callers_had is_limbo k records (closed_books closed) _ run.fits.placed,
      callers_had is_free k records (closed_books closed) _ run.fits.placed,
      callers_had is_spare k records (closed_books closed) _ run.fits.placed,
      callers_had is_spent k records (closed_books closed) _ run.fits.placed,
      shelved,
    );
    freed = omega (arith, (moves_add_up k records (closed_books closed) _ run.fits.placed m).freed, shelved);
    limbo = run.moves.sums.limbo;
  }
