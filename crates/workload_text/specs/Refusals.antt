-- Which bytes are no workload's text, and which line of them is the first that may not follow.
use Rattle.std.specs.Prelude.{◌≡◌, ◌≢◌, ℕ, ◌+◌, ◌<◌, ◌⊎◌, List, [], ◌∷◌, ◌++◌, length, codes}
use Rattle.set_model.specs.declared.calls.Call.{Call}
use Rattle.text_lines.specs.Lines.{line, HasNoFeed}
use Rattle.text_lines.specs.Numbers.{IsNumber}
use Rattle.workload_text.specs.declared.error.WorkloadError.{WorkloadError}
use Rattle.workload_text.specs.declared.error.WorkloadError.TheVariants.{Header, Callers, BadLine, KeyRange, NoEnd, TooManyCalls}
use Rattle.workload_text.specs.Limits.{HasLawfulKey}
use Rattle.text_lines.specs.Calls.{call_text}
use Rattle.workload_text.specs.Text.{Line, spelled, spelled_lines}
use Rattle.workload_text.specs.Following.{Place, at_start, behind_version, behind_callers, in_caller, behind_end, MayFollow, MayAllFollow, place_after_all}

-- a call's letter, a blank and these digits
abbrev pub IsAsked : List ℕ → List ℕ → Type 0
IsAsked text digits = (text ≡ codes "i" ++ 32 ∷ digits) ⊎ (text ≡ codes "r" ++ 32 ∷ digits) ⊎ (text ≡ codes "s" ++ 32 ∷ digits)

-- a call but for its key, which is a number above the greatest key, of however many digits
pub record HasTooLargeKey (text : List ℕ) : Type 0 where
  pub digits : List ℕ
  pub key : ℕ
  pub number : IsNumber digits key
  pub above : 1099511627773 < key
  pub asked : IsAsked text digits

-- a call with a key in range
pub record IsCallLine (text : List ℕ) : Type 0 where
  pub call : Call
  pub key : HasLawfulKey call
  pub same : text ≡ call_text call

-- Of what kind a refused line is, which has this number. Among calls it is a call line that is one too many, since
-- each call line with a key in range may follow until there are 1,000,000.
abbrev pub IsKind : Place → List ℕ → ℕ → WorkloadError → Type 0
IsKind at_start text number (Header n) = n ≡ number
IsKind (behind_version version) text number (Callers n) = n ≡ number
IsKind (behind_callers version count) text number (BadLine n) = n ≡ number
IsKind (in_caller seen) text number (KeyRange n) = (n ≡ number) × HasTooLargeKey text
IsKind (in_caller seen) text number (TooManyCalls n) = (n ≡ number) × IsCallLine text
IsKind (in_caller seen) text number (BadLine n) = (n ≡ number) × ¬ (HasTooLargeKey text) × ¬ (IsCallLine text)
IsKind behind_end text number (BadLine n) = n ≡ number
IsKind place text number error = ⊥

-- the next line is none that may follow
pub record IsRefusedLine (place : Place) (number : ℕ) (rest : List ℕ) (error : WorkloadError) : Type 0 where
  pub text : List ℕ
  pub more : List ℕ
  pub same : rest ≡ line text ++ more
  pub feedless : HasNoFeed text
  pub none_follows : (next : Line) → MayFollow place next → text ≢ spelled next
  pub kind : IsKind place text number error

-- bytes without a line feed stand behind the end
pub record IsRefusedRest (place : Place) (number : ℕ) (rest : List ℕ) (error : WorkloadError) : Type 0 where
  pub ended : place ≡ behind_end
  pub some : rest ≢ []
  pub feedless : HasNoFeed rest
  pub kind : error ≡ BadLine number

-- there is no further line, and none was the end
pub record LacksEnd (place : Place) (rest : List ℕ) (error : WorkloadError) : Type 0 where
  pub open_still : place ≢ behind_end
  pub feedless : HasNoFeed rest
  pub kind : error ≡ NoEnd

-- what is refused of the bytes behind lines that may follow; the next line would have this number
abbrev pub Refuses : Place → ℕ → List ℕ → WorkloadError → Type 0
Refuses place number rest error = IsRefusedLine place number rest error ⊎ IsRefusedRest place number rest error ⊎ LacksEnd place rest error

-- The bytes are refused so: behind lines that may each follow those before them comes the first that may not.
pub record IsRefused (bytes : List ℕ) (error : WorkloadError) : Type 0 where
  pub lines : List Line
  pub rest : List ℕ
  pub follow : MayAllFollow at_start lines
  pub same : bytes ≡ spelled_lines lines ++ rest
  pub refused : Refuses (place_after_all at_start lines) (length lines + 1) rest error
