-- What went to a sink, of which `got` tells the bytes and `faults` counts the faults, between two moments.
use Rattle.std.specs.Prelude.{◌≡◌, ℕ, Bool, true, false, List, ◌++◌, Option}
use Rattle.outside.specs.Bytes.{with_back}
use Rattle.outside.specs.Faults.{one_more}

-- the sink got just this text
abbrev pub Wrote : {K : Type 0} → (K → Option (List ℕ)) → K → K → List ℕ → Type 0
Wrote got before after text = got after ≡ with_back (got before) text

-- the sink got the text but for this rest
pub record WroteUpTo {K : Type 0} (got : K → Option (List ℕ)) (before after : K) (text rest : List ℕ) : Type 0 where
  pub front : List ℕ
  pub split : text ≡ front ++ rest
  pub wrote : Wrote got before after front

-- the sink got a front of the text
abbrev pub WrotePart : {K : Type 0} → (K → Option (List ℕ)) → K → K → List ℕ → Type 0
WrotePart got before after text = (rest : List ℕ) × WroteUpTo got before after text rest

-- How far the printing of a text has come: the sink got its front, and the rest waits, or was dropped since a put failed.
-- No put came after one that failed.
pub record Prints {K : Type 0} (got : K → Option (List ℕ)) (faults : K → ℕ) (before after : K) (failed : Bool) (waiting text : List ℕ) : Type 0 where
  pub rest : List ℕ
  pub wrote : WroteUpTo got before after text rest
  pub waits : failed ≡ false → rest ≡ waiting
  pub kept : failed ≡ false → faults after ≡ faults before
  pub counted : failed ≡ true → faults after ≡ one_more (faults before)
