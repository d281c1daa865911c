-- The counts of a run are sums that are small: a table's records and their generations are few.
use Rattle.std.proofs.Common.{◌≡◌, ℕ, suc, ◌+◌, ◌*◌, ◌<◌, ◌≤◌, ◌^◌, List, [], ◌∷◌, length, Bool, true, false, refl, sym, ap, ◌∙◌, subst, arith}
use Rattle.std.specs.List.{AllByRecursion, sum_by}
use Rattle.std.proofs.lemmas.List.Elements.{All-from_recursion}
use Rattle.std.proofs.lemmas.List.Sums.{sum_by-cons, count_by-le-length}
use Rattle.set_model.specs.declared.calls.Call.{Call}
use Rattle.set_model.specs.declared.calls.Counts.{Counts}
use Rattle.set_model.specs.declared.calls.Reply.{Reply}
use Rattle.record_memory.specs.declared.books.Book.{Book}
use Rattle.record_memory.specs.declared.books.Place.{Place}
use Rattle.record_memory.specs.declared.books.Place.TheVariants.{Undrawn, Root, Linked, Shelved, Of}
use Rattle.record_memory.specs.declared.books.Setup.{Setup}
use Rattle.record_memory.specs.declared.books.Standing.{Standing}
use Rattle.record_memory.specs.declared.books.Standing.TheVariants.{Handing, Own, Spare, TakenOut, Limbo, Free, Spent}
use Rattle.record_rule.specs.Counts.{drawn_as, left_as, retired_had, freed_had, was_drawn, times_retired, times_freed, lives_before, retired_by}
use Rattle.record_rule.specs.Facts.{At, ShapeFacts, CoverFacts}
use Rattle.record_rule.specs.PlaceCounts.{count_in}
use Rattle.record_rule.specs.Records.{Record}
use Rattle.record_rule.specs.Standings.{is_shelved, is_had, is_limbo, is_free, is_spare, is_spent}
use Rattle.record_rule.proofs.CountingPlaces.{bit}
use Rattle.record_table.specs.Closing.{closed_books, closed_setup}
use Rattle.record_table.specs.declared.closing.Closed.{Closed}
use Rattle.reclaim_api.specs.Frames.{had}
use Rattle.manager.specs.Counted.{shown}
use Rattle.manager.proofs.CallerSums.{callers_had}
use Rattle.manager.proofs.ChainCounts.{shown_below}
use Rattle.set_api.specs.declared.answer.Answer.{Answer}
use Rattle.set_runs.specs.Runs.{IsSetRun}
use Rattle.set_runs.specs.Totals.{on_shelves}
use Rattle.run_facts.specs.Counts.{AreSumsOf}
use Rattle.run_facts.proofs.Shelved.{on_shelves_are}

few_drawn : (p : Place) → drawn_as p ≤ 1
few_drawn Undrawn = omega arith
few_drawn Root = omega arith
few_drawn Linked = omega arith
few_drawn (Shelved k) = omega arith
few_drawn (Of c s) = omega arith

few_retired : (s : Standing) → retired_had s ≤ 1
few_retired (Handing n) = omega arith
few_retired Own = omega arith
few_retired Spare = omega arith
few_retired TakenOut = omega arith
few_retired Limbo = omega arith
few_retired Free = omega arith
few_retired Spent = omega arith

few_freed : (s : Standing) → freed_had s ≤ 1
few_freed (Handing n) = omega arith
few_freed Own = omega arith
few_freed Spare = omega arith
few_freed TakenOut = omega arith
few_freed Limbo = omega arith
few_freed Free = omega arith
few_freed Spent = omega arith

few_left : (had_as : Standing → ℕ) → ((s : Standing) → had_as s ≤ 1) → (p : Place) → left_as had_as p ≤ 1
few_left had_as few Undrawn = omega arith
few_left had_as few Root = omega arith
few_left had_as few Linked = omega arith
few_left had_as few (Shelved k) = omega arith
few_left had_as few (Of c s) = few s

few_bit : (b : Bool) → bit b ≤ 1
few_bit true = omega arith
few_bit false = omega arith

-- a sum over records, each of which counts no more than there are generations
few_sum : (f : Record → ℕ) (l : List Record) (n : ℕ) → length l ≡ n → ((i : ℕ) (r : Record) → At l i r → f r ≤ 1048576) → sum_by f l ≤ n * 1048576
few_sum f [] n same each = omega arith
few_sum f (r ∷ rs) n same each = omega (arith, same, each 0 r refl, few_sum f rs (length rs) refl (λ i q at. each (suc i) q at), sum_by-cons f r rs)

-- each term is below what the sum is below
each_below : (f : Book → ℕ) (n : ℕ) (books : List Book) → sum_by f books < n → AllByRecursion (λ b. f b < n) books
each_below f n [] less = tt
each_below f n (b ∷ bs) less = (omega (arith, less, sum_by-cons f b bs), each_below f n bs (omega (arith, less, sum_by-cons f b bs)))

-- a number that didn't stand still is shown as it is
exact : (x y z : ℕ) → x ≡ shown y → y ≡ z → z < 2 ^ 64 → x ≡ y
exact x y z is same below = is ∙ shown_below y (subst (λ n. n < 2 ^ 64) (sym same) below)

module _ {s : ShapeFacts} {c : CoverFacts} {steps : Setup → Call → ℕ → Answer → Book → Book → Type 0} {budget : ℕ} {setup : Setup} {lists : List (List (List Call))} {replies : List (List Reply)} {counts : Counts} {closed : Closed}
    (run : IsSetRun s c steps budget setup lists replies counts closed) where
  abbrev records : List Record
  records = run.fits.records

  abbrev k : Setup
  k = closed_setup closed

  abbrev books : List Book
  books = closed_books closed

  below : (f : Record → ℕ) → ((r : Record) → r.generation < 1048576 → f r ≤ 1048576) → sum_by f records < 2 ^ 64
  below f few = omega (arith, few_sum f records k.records run.fits.placed.many (λ i r at. few r (run.fits.placed.sound i r at).within), run.fits.numbers.records)

  had_below : (test : Standing → Bool) → count_in (is_had test) records < 2 ^ 64
  had_below test = below (λ r. bit (is_had test r.place)) (λ r within. omega (arith, few_bit (is_had test r.place)))

  retired_below : sum_by (times_retired k.first) records < 2 ^ 64
  retired_below = below (times_retired k.first) (λ r within. omega (arith, within, few_left retired_had few_retired r.place))

  had_sum : (test : Standing → Bool) → sum_by (had test) books ≡ count_in (is_had test) records
  had_sum test = callers_had test k records books _ run.fits.placed

  free_exact : run.totals.free ≡ sum_by (had is_free) books
  free_exact = exact _ _ _ run.totals_are.free (had_sum is_free) (had_below is_free)

  -- the free records of all callers and those on shelves are different ones, so they too are few
  all_free : run.totals.free + on_shelves closed < 2 ^ 64
  all_free = omega (
    arith,
    free_exact,
    had_sum is_free,
    on_shelves_are closed records books run.fits.placed,
    count_by-le-length (λ (r : Record). is_had is_free r.place) records,
    count_by-le-length (λ (r : Record). is_shelved r.place) records,
    run.fits.placed.many,
    run.fits.numbers.records,
  )

  pub counts_exact : AreSumsOf counts books (on_shelves closed)
  counts_exact = let t = run.totals_are in let m = run.fits.moved in let are = run.counts_are in record {
    drawn = ap (λ (n : Counts). n.drawn) are ∙ exact _ _ _ t.drawn m.drawn (below was_drawn (λ r within. omega (arith, few_drawn r.place)));
    reused = ap (λ (n : Counts). n.reused) are ∙ exact _ _ _ t.reused m.reused (below (lives_before k.first) (λ r within. omega (arith, within)));
    retired = ap (λ (n : Counts). n.retired) are ∙ exact _ _ _ t.retired m.retired retired_below;
    freed = ap (λ (n : Counts). n.freed) are ∙ exact _ _ _ t.freed m.freed (below (times_freed k.first) (λ r within. omega (arith, within, few_left freed_had few_freed r.place)));
    limbo =
        ap (λ (n : Counts). n.limbo) are
        ∙ exact _ _ _ (t.limbo (All-from_recursion (λ b. b.moves.retired < 2 ^ 64) books (each_below retired_by (2 ^ 64) books (subst (λ n. n < 2 ^ 64) (sym m.retired) retired_below)))) (had_sum is_limbo) (had_below is_limbo);
    free = ap (λ (n : Counts). n.free) are ∙ shown_below (run.totals.free + on_shelves closed) all_free ∙ ap (λ n. n + on_shelves closed) free_exact;
    spare = ap (λ (n : Counts). n.spare) are ∙ exact _ _ _ t.spare (had_sum is_spare) (had_below is_spare);
    spent = ap (λ (n : Counts). n.spent) are ∙ exact _ _ _ t.spent (had_sum is_spent) (had_below is_spent);
  }
