-- Where a table has as many records as all insertions need, no reply of a run on it is `Full`.
use mathlib.Core.Option.{some-injective}
use Rattle.std.proofs.Common.{◌≡◌, ◌≢◌, ℕ, zero, suc, ◌≤◌, ◌<◌, List, [], ◌∷◌, length, refl, sym, ap, ◌∙◌, subst, arith}
use Rattle.std.specs.List.{All, AllByRecursion, sum_by}
use Rattle.std.proofs.Math.ListN.{get_or-map}
use Rattle.std.proofs.lemmas.List.{length-map}
use Rattle.std.proofs.lemmas.List.Elements.{All-from_recursion}
use Rattle.std.proofs.lemmas.List.Sums.{sum_by-cons}
use Rattle.set_model.specs.declared.calls.Call.{Call}
use Rattle.set_model.specs.declared.calls.Counts.{Counts}
use Rattle.set_model.specs.declared.calls.Reply.{Reply}
use Rattle.set_model.specs.declared.calls.Reply.TheVariants.{Full}
use Rattle.set_model.specs.declared.names.AllocatorName.TheVariants.{Bump}
use Rattle.set_model.specs.Machine.{insertions_in}
use Rattle.record_memory.specs.declared.books.Book.{Book}
use Rattle.record_memory.specs.declared.books.Guard.{Guard}
use Rattle.record_memory.specs.declared.books.Setup.{Setup}
use Rattle.record_memory.specs.declared.steps.Step.{Step}
use Rattle.record_memory.specs.declared.steps.Word.TheVariants.{Drawn}
use Rattle.record_rule.specs.Counts.{drawn_by}
use Rattle.record_rule.specs.Facts.{At, ShapeFacts, CoverFacts}
use Rattle.record_rule.proofs.Drained.{none_left}
use Rattle.record_rule.proofs.Lists.{at_below, below_at, get_at}
use Rattle.record_table.specs.Closing.{closed_setup, closed_books}
use Rattle.record_table.specs.declared.closing.Closed.{Closed}
use Rattle.set_api.specs.declared.answer.Answer.{Answer}
use Rattle.set_api.specs.Drawing.{TakesSpareFirst}
use Rattle.set_runs.specs.Runs.{IsCallersPlay, IsSetRun}
use Rattle.workload_text.specs.Limits.{calls_of_all, joined}
use Rattle.run_facts.specs.Replies.{with_replies}
use Rattle.run_facts.specs.Fullness.{HasRoom}
use Rattle.run_facts.specs.Unshared.{calls_by, NoneIsFull}
use Rattle.run_facts.proofs.AloneRuns.{at_got}
use Rattle.run_facts.proofs.Answers.{phases_add}
use Rattle.run_facts.proofs.Drawing.{answered_calls, goes_draws, full_draws, full_found}
use Rattle.run_facts.proofs.Fullness.{phases_go, some_full}

-- a sum of smaller terms is smaller
sum_most : {X Y : Type 0} (f : X → ℕ) (g : Y → ℕ) (xs : List X) (ys : List Y) → length xs ≡ length ys → ((i : ℕ) (x : X) (y : Y) → At xs i x → At ys i y → f x ≤ g y) → sum_by f xs ≤ sum_by g ys
sum_most f g [] [] same each = omega arith
sum_most f g [] (y ∷ ys) same each = absurd (omega (arith, same))
sum_most f g (x ∷ xs) [] same each = absurd (omega (arith, same))
sum_most f g (x ∷ xs) (y ∷ ys) same each =
    omega (arith, sum_by-cons f x xs, sum_by-cons g y ys, each 0 x y refl refl, sum_most f g xs ys (omega (arith, same)) (λ i a b at there. each (suc i) a b at there))

-- and less than the other where some term is
sum_less : {X Y : Type 0} (f : X → ℕ) (g : Y → ℕ) (xs : List X) (ys : List Y) → length xs ≡ length ys → ((i : ℕ) (x : X) (y : Y) → At xs i x → At ys i y → f x ≤ g y)
    → (n : ℕ) (x : X) (y : Y) → At xs n x → At ys n y → f x < g y → sum_by f xs < sum_by g ys
sum_less f g [] ys same each n x y at there less = absurd (omega (arith, below_at [] n x at))
sum_less f g (a ∷ xs) [] same each n x y at there less = absurd (omega (arith, below_at [] n y there))
sum_less f g (a ∷ xs) (b ∷ ys) same each zero x y at there less =
    omega (arith, sum_by-cons f a xs, sum_by-cons g b ys, ap f (some-injective a x at), ap g (some-injective b y there), less, sum_most f g xs ys (omega (arith, same)) (λ i c d at there. each (suc i) c d at there))
sum_less f g (a ∷ xs) (b ∷ ys) same each (suc n) x y at there less =
    omega (arith, sum_by-cons f a xs, sum_by-cons g b ys, each 0 a b refl refl, sum_less f g xs ys (omega (arith, same)) (λ i c d at there. each (suc i) c d at there) n x y at there less)

-- the calls beside their replies
calls_there : (calls : List Call) (replies : List Reply) → length replies ≡ length calls → answered_calls (with_replies calls replies) ≡ calls
calls_there [] replies same = refl
calls_there (call ∷ calls) [] same = absurd (omega (arith, same))
calls_there (call ∷ calls) (r ∷ replies) same = ap (λ l. call ∷ l) (calls_there calls replies (omega (arith, same)))

-- what holds at each place of a list holds of all
each_place : {X : Type 0} (P : X → Type 0) (xs : List X) → ((n : ℕ) (x : X) → At xs n x → P x) → AllByRecursion P xs
each_place P [] there = tt
each_place P (x ∷ xs) there = (there 0 x refl, each_place P xs (λ n y at. there (suc n) y at))

module _ {steps : Call → ℕ → Answer → Book → Book → Type 0} {budget records : ℕ} {setup : Setup} {first : Guard} {number : ℕ} {phases : List (List Call)} {replies : List Reply} {bounds : List ℕ} {book : Book}
    (thrifty : TakesSpareFirst steps records) (p : IsCallersPlay steps budget setup first number phases replies bounds book) where
  -- a caller began with none drawn
  none_drawn : p.start.own.moves.drawn ≡ 0
  none_drawn = ap (λ (b : Book). b.moves.drawn) p.fresh.own

  all_calls : answered_calls (with_replies (calls_of_all phases) replies) ≡ calls_of_all phases
  all_calls = calls_there (calls_of_all phases) replies (phases_add p.played).0

  -- a caller draws no more records than it makes insertions
  caller_draws : drawn_by book ≤ insertions_in (calls_of_all phases)
  caller_draws = omega (arith, goes_draws thrifty (phases_go p.played), none_drawn, ap insertions_in all_calls, ap drawn_by p.book_is)

  -- and fewer where a reply is `Full`
  caller_less : (n : ℕ) → At replies n Full → drawn_by book < insertions_in (calls_of_all phases)
  caller_less n at = omega (arith, full_draws thrifty (some_full p n at), none_drawn, ap insertions_in all_calls, ap drawn_by p.book_is)

  -- where one of its steps found all drawn
  caller_found : (n : ℕ) → At replies n Full → (k : ℕ) × (t : Step) × At book.steps k t × (t.word ≡ Drawn) × (records ≤ t.found)
  caller_found n at = subst (λ (b : Book). (k : ℕ) × (t : Step) × At b.steps k t × (t.word ≡ Drawn) × (records ≤ t.found)) p.book_is (full_found thrifty (some_full p n at))

-- the calls of a caller, among those of all
joined_at : (lists : List (List (List Call))) (i : ℕ) (calls : List Call) → At (joined lists) i calls → calls ≡ calls_by lists i
joined_at lists i calls at =
    sym (get_at (joined lists) i calls [] at) ∙ get_or-map calls_of_all lists i []

module _ {s : ShapeFacts} {c : CoverFacts} {steps : Setup → Call → ℕ → Answer → Book → Book → Type 0} {budget : ℕ} {setup : Setup} {lists : List (List (List Call))} {replies : List (List Reply)} {counts : Counts} {closed : Closed}
    (run : IsSetRun s c steps budget setup lists replies counts closed) (thrifty : TakesSpareFirst (steps setup) setup.records) where
  each_draws : (i : ℕ) (book : Book) (calls : List Call) → At (closed_books closed) i book → At (joined lists) i calls → drawn_by book ≤ insertions_in calls
  each_draws i book calls at there =
      let own = at_below replies i (subst (λ n. i < n) (run.all_books ∙ sym run.all_replies) (below_at (closed_books closed) i book at)) in
      let p = run.each i own.0 book (at_got replies i own.0 own.1) (at_got (closed_books closed) i book at) in
      subst (λ l. drawn_by book ≤ insertions_in l) (sym (joined_at lists i calls there)) (caller_draws thrifty p)

  -- a run on a table whose allocator counts in one word, and which has a record for each root and each insertion, has no reply `Full`
  pub never_full : setup.allocator ≡ Bump → HasRoom setup lists → All NoneIsFull replies
  never_full bump enough = All-from_recursion NoneIsFull replies (each_place NoneIsFull replies (λ i own here. All-from_recursion (λ (r : Reply). r ≢ Full) own (each_place (λ (r : Reply). r ≢ Full) own (λ n r at full. none i own here n (subst (At own n) full at)))))
    where
      none : (i : ℕ) (own : List Reply) → At replies i own → (n : ℕ) → ¬ (At own n Full)
      none i own there n at =
          let here = at_got replies i own there in
          let within : i < length lists = subst (λ m. i < m) run.all_replies (below_at replies i own there) in
          let b = at_below (closed_books closed) i (subst (λ m. i < m) (sym run.all_books) within) in
          let p = run.each i own b.0 here (at_got (closed_books closed) i b.0 b.1) in
          let l = at_below (joined lists) i (subst (λ m. i < m) (sym (length-map lists calls_of_all)) within) in
          let less = subst (λ (calls : List Call). drawn_by b.0 < insertions_in calls) (sym (joined_at lists i l.0 l.1)) (caller_less thrifty p n at) in
          let same : length (closed_books closed) ≡ length (joined lists) = run.all_books ∙ sym (length-map lists calls_of_all) in
          let fewer = sum_less drawn_by insertions_in (closed_books closed) (joined lists) same each_draws i b.0 l.0 b.1 l.1 less in
          let f = caller_found thrifty p n at in
          let left = none_left run.fits (ap (λ (k : Setup). k.allocator) run.setup_is ∙ bump) i b.0 b.1 f.0 f.1 f.2 f.3
          (subst (λ (k : Setup). k.records ≤ f.1.found) (sym run.setup_is) f.4) in
          let roots : (closed_setup closed).roots ≡ setup.roots = ap (λ (k : Setup). k.roots) run.setup_is in
          let records : (closed_setup closed).records ≡ setup.records = ap (λ (k : Setup). k.records) run.setup_is in
          omega (arith, left, roots, records, fewer, enough)
