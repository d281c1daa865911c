-- What a printer does.
use Rattle.std.specs.Prelude.{◌≡◌, ℕ, List, ◌++◌, Option}
use Rattle.report_text.specs.declared.printer.Printer.{Printer}
use Rattle.report_text.specs.Writing.{Wrote, WrotePart, Prints}
use Rattle.outside.specs.Faults.{one_more}

-- The printer prints to the sink that was `before` when printing began, and has come so far with the text.
abbrev pub IsPrinting : {K : Type 0} → (K → Option (List ℕ)) → (K → ℕ) → K → Printer K → List ℕ → Type 0
IsPrinting got faults before printer text = Prints got faults before printer.sink.now printer.failed printer.waiting.items text

-- The text comes behind what was printed before, and the sink is the same.
pub record Adds {K : Type 0} (got : K → Option (List ℕ)) (faults : K → ℕ) (old new : Printer K) (text : List ℕ) : Type 0 where
  pub same_sink : new.sink.ghost_name ≡ old.sink.ghost_name
  pub behind : (before : K) (printed : List ℕ) → IsPrinting got faults before old printed → IsPrinting got faults before new (printed ++ text)

-- All that was printed went to the sink, `after`.
abbrev pub Finishes : {K : Type 0} → (K → Option (List ℕ)) → (K → ℕ) → Printer K → K → Type 0
Finishes {K} got faults printer after = (before : K) (text : List ℕ) → IsPrinting got faults before printer text → Wrote got before after text × (faults after ≡ faults before)

-- A put failed, and a front of what was printed went to the sink, `after`.
abbrev pub Stops : {K : Type 0} → (K → Option (List ℕ)) → (K → ℕ) → Printer K → K → Type 0
Stops {K} got faults printer after = (before : K) (text : List ℕ) → IsPrinting got faults before printer text → WrotePart got before after text × (faults after ≡ one_more (faults before))
