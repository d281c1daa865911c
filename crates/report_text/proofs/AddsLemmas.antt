-- How printings follow one another.
use Rattle.std.proofs.Common.{◌≡◌, ℕ, List, [], ◌++◌, Option, sym, ap, ◌∙◌, subst, refl, append_assoc, append-nil}
use Rattle.report_text.specs.declared.printer.Printer.{Printer}
use Rattle.report_text.specs.Printing.{IsPrinting, Adds}
use Rattle.report_text.proofs.WritingLemmas.{Prints-more}

-- The text was added but for this rest: what a loop that prints keeps.
abbrev pub AddsUpTo : {K : Type 0} (got : K → Option (List ℕ)) (faults : K → ℕ) → Printer K → Printer K → List ℕ → List ℕ → Type 0
AddsUpTo got faults p q text rest = (front : List ℕ) × Adds got faults p q front × (text ≡ front ++ rest)

module _ {K : Type 0} {got : K → Option (List ℕ)} {faults : K → ℕ} where
  pub Adds-then : {p q r : Printer K} {x y : List ℕ} → Adds got faults p q x → Adds got faults q r y → Adds got faults p r (x ++ y)
  Adds-then {r = r} {x = x} {y = y} first second = record {
    same_sink = second.same_sink ∙ first.same_sink;
    behind = λ before printed so_far.
        let P : List ℕ → Type 0 = λ text. IsPrinting got faults before r text in
        subst P (append_assoc printed x y) (second.behind before (printed ++ x) (first.behind before printed so_far));
  }

  -- one printing, and then the other
  infixl 10 ◌⨟◌
  abbrev pub ◌⨟◌ : {p q r : Printer K} {x y : List ℕ} → Adds got faults p q x → Adds got faults q r y → Adds got faults p r (x ++ y)
  first ⨟ second = Adds-then first second

  pub Adds-nothing : {p : Printer K} → Adds got faults p p []
  Adds-nothing {p = p} = record {
    same_sink = refl;
    behind = λ before printed so_far. rw append-nil so_far;
  }

  -- the text waits
  pub Adds-waits : (p q : Printer K) (x : List ℕ) → q.sink ≡ p.sink → q.failed ≡ p.failed → q.waiting.items ≡ p.waiting.items ++ x → Adds got faults p q x
  Adds-waits p q x sink failed items = record {
    same_sink = ap (λ s. s.ghost_name) sink;
    behind = λ before printed so_far. rw (sink, failed, items) (Prints-more got faults before p.sink.now p.failed x so_far);
  }

  pub AddsUpTo-start : {p : Printer K} {text : List ℕ} → AddsUpTo got faults p p text text
  AddsUpTo-start = ([], Adds-nothing, refl)

  pub AddsUpTo-turn : {p q r : Printer K} {text rest piece later : List ℕ} → AddsUpTo got faults p q text rest → Adds got faults q r piece → rest ≡ piece ++ later → AddsUpTo got faults p r text later
  AddsUpTo-turn {piece = piece} {later = later} kept more split =
      (kept.0 ++ piece, Adds-then kept.1 more, kept.2 ∙ ap (λ xs. kept.0 ++ xs) split ∙ sym (append_assoc kept.0 piece later))
