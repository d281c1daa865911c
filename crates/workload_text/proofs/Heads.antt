-- The lines before the calls of the first caller, and what is refused of them.
use Rattle.std.proofs.Common.{◌≡◌, ◌≢◌, ℕ, ◌+◌, ◌<◌, ◌≤◌, inl, inr, List, [], ◌∷◌, ◌++◌, length, codes, refl, sym, ap, ◌∙◌, append_assoc, arith}
use Rattle.text_lines.specs.Lines.{line, numbered, HasNoFeed}
use Rattle.text_lines.proofs.FeedLemmas.{same_number}
use Rattle.workload_text.specs.declared.error.WorkloadError.{WorkloadError}
use Rattle.workload_text.specs.declared.error.WorkloadError.TheVariants.{NoEnd}
use Rattle.workload_text.specs.Text.{Line, version_line, callers_line, caller_line, call_line, phase_line, end_line, spelled, spelled_lines}
use Rattle.workload_text.specs.Following.{Place, at_start, behind_version, behind_callers, behind_end, MayFollow, MayAllFollow, place_after_all}
use Rattle.workload_text.specs.Refusals.{IsKind, Refuses, IsRefused}

-- no line can be refused where there is none
pub lacks : (place : Place) (number : ℕ) (rest : List ℕ) → place ≢ behind_end → HasNoFeed rest → Refuses place number rest NoEnd
lacks place number rest h feedless = inr (inr (record { open_still = h; feedless = feedless; kind = refl }))

pub refused_line : (place : Place) (number : ℕ) (rest text more : List ℕ) (e : WorkloadError) → rest ≡ line text ++ more → HasNoFeed text → ((next : Line) → MayFollow place next → text ≢ spelled next) → IsKind place text number e → Refuses place number rest e
refused_line place number rest text more e same feedless none kind = inl (record { text = text; more = more; same = same; feedless = feedless; none_follows = none; kind = kind })

pub no_version : (text : List ℕ) → ((n : ℕ) → n ≤ 2 → 0 < n → text ≢ numbered (codes "setbench") n) → (next : Line) → MayFollow at_start next → text ≢ spelled next
no_version text none (version_line version) (inl m) e = none version (omega arith) (omega arith) e
no_version text none (version_line version) (inr m) e = none version (omega arith) (omega arith) e
no_version text none (callers_line count) m e = absurd m
no_version text none (caller_line caller) m e = absurd m
no_version text none (call_line call) m e = absurd m
no_version text none phase_line m e = absurd m
no_version text none end_line m e = absurd m

pub no_callers : (version : ℕ) (text : List ℕ) → ((n : ℕ) → n ≤ 64 → 0 < n → text ≢ numbered (codes "callers") n) → (next : Line) → MayFollow (behind_version version) next → text ≢ spelled next
no_callers version text none (callers_line count) m e = none count m.1 (omega (arith, m.0)) e
no_callers version text none (version_line v) m e = absurd m
no_callers version text none (caller_line caller) m e = absurd m
no_callers version text none (call_line call) m e = absurd m
no_callers version text none phase_line m e = absurd m
no_callers version text none end_line m e = absurd m

pub no_first : (version count : ℕ) (text : List ℕ) → ((n : ℕ) → n ≤ 0 → text ≢ numbered (codes "caller") n) → (next : Line) → MayFollow (behind_callers version count) next → text ≢ spelled next
no_first version count text none (caller_line caller) m e = none caller (omega (arith, m)) e
no_first version count text none (version_line v) m e = absurd m
no_first version count text none (callers_line n) m e = absurd m
no_first version count text none (call_line call) m e = absurd m
no_first version count text none phase_line m e = absurd m
no_first version count text none end_line m e = absurd m

-- the number 0 is none of those that may stand
pub only_zero : (word text : List ℕ) (found n : ℕ) → found ≡ 0 → text ≡ numbered word found → 0 < n → n ≤ 64 → text ≢ numbered word n
only_zero word text found n zero is some few e =
    let same = same_number word found n (omega arith) (omega arith) (sym is ∙ e) in
    absurd (omega arith)

-- ---- behind lines that may follow

pub refused_behind : (bytes rest : List ℕ) (lines : List Line) (e : WorkloadError) → MayAllFollow at_start lines → bytes ≡ spelled_lines lines ++ rest → Refuses (place_after_all at_start lines) (length lines + 1) rest e → IsRefused bytes e
refused_behind bytes rest lines e follow same refused = record { lines = lines; rest = rest; follow = follow; same = same; refused = refused }

pub spelled_two : (x y : Line) (bytes r s : List ℕ) → bytes ≡ line (spelled x) ++ r → r ≡ line (spelled y) ++ s → bytes ≡ spelled_lines (x ∷ y ∷ []) ++ s
spelled_two x y bytes r s e f = e ∙ ap (λ (t : List ℕ). line (spelled x) ++ t) f ∙ simp append_assoc

pub spelled_three : (x y z : Line) (bytes r s t : List ℕ) → bytes ≡ line (spelled x) ++ r → r ≡ line (spelled y) ++ s → s ≡ line (spelled z) ++ t → bytes ≡ spelled_lines (x ∷ y ∷ z ∷ []) ++ t
spelled_three x y z bytes r s t e f g = spelled_two x y bytes r s e f ∙ ap (λ (u : List ℕ). spelled_lines (x ∷ y ∷ []) ++ u) g ∙ simp append_assoc

pub spelled_first : (x : Line) (bytes r : List ℕ) → bytes ≡ line (spelled x) ++ r → bytes ≡ spelled_lines (x ∷ []) ++ r
spelled_first x bytes r e = e ∙ simp append_assoc
