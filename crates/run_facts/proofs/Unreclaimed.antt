-- Without reclamation a record that was taken out stays there, so none was freed, and each is in the first of its lives.
use mathlib.Core.Option.{some}
use Rattle.std.proofs.Common.{◌≡◌, ℕ, zero, suc, ◌+◌, ◌-◌, ◌<◌, ◌≤◌, ◌⊎◌, inl, inr, ⊎_elim, List, [], ◌∷◌, map, refl, ap, ◌∙◌, subst, arith}
use Rattle.std.specs.List.{sum_by}
use Rattle.std.proofs.lemmas.List.Sums.{sum_by-cons}
use Rattle.atomic_table.proofs.Lists.{at_map}
use Rattle.set_model.specs.declared.calls.Call.{Call}
use Rattle.set_model.specs.declared.calls.Counts.{Counts}
use Rattle.set_model.specs.declared.calls.Reply.{Reply}
use Rattle.set_model.specs.declared.calls.Update.{Update}
use Rattle.row_words.specs.Refs.{refer}
use Rattle.record_memory.specs.declared.books.Book.{Book}
use Rattle.record_memory.specs.declared.books.Place.{Place}
use Rattle.record_memory.specs.declared.books.Place.TheVariants.{Undrawn, Root, Linked, Shelved, Of}
use Rattle.record_memory.specs.declared.books.Setup.{Setup}
use Rattle.record_memory.specs.declared.books.Standing.TheVariants.{Handing, Own, Spare, TakenOut, Limbo, Free, Spent}
use Rattle.record_rule.specs.ClosedTables.{ClosedFits}
use Rattle.record_rule.specs.Counts.{freed_by, reused_by, freed_as, lives_before, times_freed}
use Rattle.record_rule.specs.Facts.{At, ShapeFacts}
use Rattle.record_rule.specs.Inputs.{unseen, was_taken, scheme_at, scheme_cell, taken_at, taken_cell}
use Rattle.record_rule.specs.Laws.{IsThereAs}
use Rattle.record_rule.specs.Records.{Record}
use Rattle.record_rule.specs.Standings.{is_free, is_spent}
use Rattle.record_rule.specs.Taken.{generation_of}
use Rattle.record_rule.proofs.Lists.{one_at}
use Rattle.cover_facts.specs.Keeping.{none}
use Rattle.manager.specs.Counted.{shown}
use Rattle.reclaim_api.specs.Frames.{had}
use Rattle.record_table.specs.Closing.{closed_books, closed_setup, closed_words, history_of}
use Rattle.record_table.specs.declared.closing.Closed.{Closed}
use Rattle.set_api.specs.declared.answer.Answer.{Answer}
use Rattle.set_runs.specs.Runs.{IsSetRun}
use Rattle.set_runs.specs.Totals.{on_shelves}
use Rattle.run_facts.specs.Unreclaimed.{IsUnreclaimed}
use Rattle.run_facts.proofs.Shelved.{on_shelves_are}

-- a sum of nothing
pub sum_zero : {X : Type 0} (f : X → ℕ) (xs : List X) → ((i : ℕ) (x : X) → At xs i x → f x ≡ 0) → sum_by f xs ≡ 0
sum_zero f [] each = refl
sum_zero f (x ∷ xs) each = omega (arith, sum_by-cons f x xs, each 0 x refl, sum_zero f xs (λ i y at. each (suc i) y at))

-- what may be held has the generation that the list of those taken out sees
is_of : (p : Place) (r : Record) (g n : ℕ) → IsThereAs (scheme_at p r) g n → generation_of (taken_at p r) ≡ g
is_of Undrawn r g n h = absurd h
is_of Root r g n h = absurd h
is_of Linked r g n h = h
is_of (Shelved k) r g n h = absurd h
is_of (Of c (Handing m)) r g n h = absurd h
is_of (Of c Own) r g n h = absurd h
is_of (Of c Spare) r g n h = absurd h
is_of (Of c TakenOut) r g n h = h.0
is_of (Of c Limbo) r g n h = h.0
is_of (Of c Free) r g n h = absurd h
is_of (Of c Spent) r g n h = absurd h

no_older : (p : Place) (r : Record) → r.generation ≤ generation_of (taken_at p r)
no_older Undrawn r = omega arith
no_older Root r = omega arith
no_older Linked r = omega arith
no_older (Shelved k) r = omega arith
no_older (Of c (Handing m)) r = omega arith
no_older (Of c Own) r = omega arith
no_older (Of c Spare) r = omega arith
no_older (Of c TakenOut) r = omega arith
no_older (Of c Limbo) r = omega arith
no_older (Of c Free) r = omega arith
no_older (Of c Spent) r = omega arith

less_or_not : (m k : ℕ) → (m < k) ⊎ (k ≤ m)
less_or_not m zero = inr (omega arith)
less_or_not zero (suc k) = inl (omega arith)
less_or_not (suc m) (suc k) = ⊎_elim (λ h. inl (omega (arith, h))) (λ h. inr (omega (arith, h))) (less_or_not m k)

module _ (s : ShapeFacts) (setup : Setup) (words : List ℕ) (books : List Book) (history : List Update) (fits : ClosedFits s none setup words books history) where
  -- a record that was taken out at some generation is there at it
  stays : (i g n : ℕ) (r : Record) → At fits.records i r → At fits.taken_out n (refer (i + 1) g) → IsThereAs (scheme_cell r) g n
  stays i g n r at out =
      let h = fits.covered n (refer (i + 1) g) out in
      let here : (i + 1) - 1 ≡ i = omega arith in
      let cells = map scheme_cell fits.records in
      let same = one_at cells i h.0 (scheme_cell r) (subst (λ k. At cells k h.0) here h.2) (at_map scheme_cell fits.records i r at) in
      subst (λ cell. IsThereAs cell g n) same h.3

  first_life : (i : ℕ) (r : Record) → At fits.records i r → lives_before setup.first r ≡ 0
  first_life i r at = ⊎_elim
      (λ later. let out = fits.taken.older i setup.first (taken_cell r) (at_map taken_cell fits.records i r at) (omega arith) later in
      let same = is_of r.place r setup.first out.0 (stays i setup.first out.0 r at out.1) in absurd (omega (arith, same, later)))
      (λ few. omega (arith, few, no_older r.place r))
      (less_or_not setup.first (generation_of (taken_cell r)))

  unfreed : (i : ℕ) (r : Record) → At fits.records i r → freed_as r.place ≡ 0
  unfreed i r at = by r.place refl where
    gone : (p : Place) → r.place ≡ p → taken_at p r ≡ was_taken r.generation r.taken_number → scheme_at p r ≡ unseen → ⊥
    gone p is taken hides =
        let out = fits.taken.own i r.generation r.taken_number (at_map taken_cell fits.records i r at ∙ ap (λ (q : Place). some (taken_at q r)) is ∙ ap some taken) in
        subst (λ cell. IsThereAs cell r.generation r.taken_number) (ap (λ (q : Place). scheme_at q r) is ∙ hides) (stays i r.generation r.taken_number r at out)

    by : (p : Place) → r.place ≡ p → freed_as p ≡ 0
    by Undrawn is = refl
    by Root is = refl
    by Linked is = refl
    by (Shelved k) is = absurd (gone (Shelved k) is refl refl)
    by (Of c (Handing m)) is = refl
    by (Of c Own) is = refl
    by (Of c Spare) is = refl
    by (Of c TakenOut) is = refl
    by (Of c Limbo) is = refl
    by (Of c Free) is = absurd (gone (Of c Free) is refl refl)
    by (Of c Spent) is = absurd (gone (Of c Spent) is refl refl)

  pub none_freed : sum_by freed_by books ≡ 0
  none_freed = fits.moved.freed ∙ sum_zero (times_freed setup.first) fits.records (λ i r at. omega (arith, first_life i r at, unfreed i r at))

  pub none_reused : sum_by reused_by books ≡ 0
  none_reused = fits.moved.reused ∙ sum_zero (lives_before setup.first) fits.records first_life

-- so the counts of a run tell of none
pub unreclaimed : {s : ShapeFacts} {steps : Setup → Call → ℕ → Answer → Book → Book → Type 0} {budget : ℕ} {setup : Setup} {lists : List (List (List Call))} {replies : List (List Reply)} {counts : Counts} {closed : Closed}
    → IsSetRun s none steps budget setup lists replies counts closed → IsUnreclaimed counts
unreclaimed {s = s} {closed = closed} run =
    let freed = none_freed s (closed_setup closed) (closed_words closed) (closed_books closed) (history_of closed) run.fits in
    let reused = none_reused s (closed_setup closed) (closed_words closed) (closed_books closed) (history_of closed) run.fits in
    let sums = run.moves.sums.freed in
    let free : sum_by (had is_free) (closed_books closed) ≡ 0 = omega (arith, sums, freed) in
    let spent : sum_by (had is_spent) (closed_books closed) ≡ 0 = omega (arith, sums, freed) in
    let shelved : on_shelves closed ≡ 0 = omega (arith, sums, freed, on_shelves_are closed run.moves.records (closed_books closed) run.moves.placed) in
    let own : run.totals.free ≡ 0 = run.totals_are.free ∙ ap shown free in
    let none : run.totals.free + on_shelves closed ≡ 0 = omega (arith, own, shelved) in
    let are = run.counts_are in
    record {
      reused = ap (λ (n : Counts). n.reused) are ∙ run.totals_are.reused ∙ ap shown reused;
      freed = ap (λ (n : Counts). n.freed) are ∙ run.totals_are.freed ∙ ap shown freed;
      free = ap (λ (n : Counts). n.free) are ∙ ap shown none;
      spent = ap (λ (n : Counts). n.spent) are ∙ run.totals_are.spent ∙ ap shown spent;
    }
