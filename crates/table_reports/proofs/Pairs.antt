-- There is a reply for each call of a run.
use Rattle.std.proofs.Common.{◌≡◌, ℕ, zero, suc, ◌<◌, List, [], ◌∷◌, map, length, Some, slice_get, get_or, refl, sym, ap, ◌∙◌, arith}
use Rattle.std.proofs.lemmas.List.{get_or-map, length-map}
use Rattle.std.proofs.lemmas.Option.{slice_get-get_or}
use Rattle.record_memory.specs.declared.books.Book.{Book}
use Rattle.record_memory.specs.declared.books.Setup.{Setup}
use Rattle.record_rule.specs.Facts.{ShapeFacts, CoverFacts}
use Rattle.record_table.specs.Closing.{closed_books}
use Rattle.record_table.specs.declared.closing.Closed.{Closed}
use Rattle.run_facts.proofs.Answers.{phases_add}
use Rattle.set_api.specs.declared.answer.Answer.{Answer}
use Rattle.set_model.specs.declared.calls.Call.{Call}
use Rattle.set_model.specs.declared.calls.Counts.{Counts}
use Rattle.set_model.specs.declared.calls.Reply.{Reply}
use Rattle.set_runs.specs.Runs.{IsSetRun}
use Rattle.workload_text.specs.Limits.{calls_of_all, joined}

-- lists that are as long place by place
same_lengths : {A B : Type 0} (xs : List (List A)) (ys : List (List B)) → length xs ≡ length ys → ((i : ℕ) → i < length xs → length (get_or xs i []) ≡ length (get_or ys i [])) → map length xs ≡ map length ys
same_lengths [] [] long each = refl
same_lengths [] (y ∷ ys) long each = absurd (omega (arith, long))
same_lengths (x ∷ xs) [] long each = absurd (omega (arith, long))
same_lengths (x ∷ xs) (y ∷ ys) long each =
    ap (λ n. n ∷ map length xs) (each 0 (omega arith)) ∙ ap (λ l. length y ∷ l) (same_lengths xs ys (omega (arith, long)) (λ i within. each (suc i) (omega (arith, within))))

-- a place before the end has an element
some_at : {A : Type 0} (xs : List A) (i : ℕ) → i < length xs → (x : A) × (slice_get xs i ≡ Some x)
some_at [] i within = absurd (omega (arith, within))
some_at (x ∷ xs) zero within = (x, refl)
some_at (x ∷ xs) (suc i) within = some_at xs i (omega (arith, within))

pub all_paired : (s : ShapeFacts) (r : CoverFacts) (steps : Setup → Call → ℕ → Answer → Book → Book → Type 0) (budget : ℕ) (setup : Setup) (lists : List (List (List Call))) (replies : List (List Reply)) (counts : Counts) (closed : Closed)
    → IsSetRun s r steps budget setup lists replies counts closed → map length replies ≡ map length (joined lists)
all_paired s r steps budget setup lists replies counts closed run =
    let long : length replies ≡ length (joined lists) = run.all_replies ∙ sym (length-map lists calls_of_all) in
    same_lengths replies (joined lists) long (λ i within.
    let here : i < length lists = omega (arith, within, run.all_replies) in
    let book = some_at (closed_books closed) i (omega (arith, here, run.all_books)) in
    let play = run.each i (get_or replies i []) book.0 (slice_get-get_or replies i [] within) book.1 in
    (phases_add play.played).0 ∙ sym (ap length (get_or-map calls_of_all lists i [] [] here)))
