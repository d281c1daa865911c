-- Bytes begin with the lines of one run alone, and what is behind them has one outcome: it is the end, or it is
-- refused in one way.
use Rattle.std.proofs.Common.{◌≡◌, ◌≢◌, ℕ, ◌+◌, ◌<◌, ◌≤◌, inl, inr, List, [], ◌∷◌, ◌++◌, length, codes, Option, Some, None, refl, sym, ap, subst, ◌∙◌, append_assoc, arith}
use Rattle.std.specs.Fmt.{decimal}
use Rattle.std.proofs.lemmas.List.{append_cancel_left}
use Rattle.set_model.specs.declared.calls.Call.{Call}
use Rattle.set_model.specs.declared.calls.Call.TheVariants.{Insert, Remove, Search}
use Rattle.text_lines.specs.Lines.{line, numbered}
use Rattle.text_lines.specs.Numbers.{IsNumber}
use Rattle.text_lines.proofs.FeedLemmas.{other_start}
use Rattle.text_lines.proofs.LineLemmas.{no_line, same_line, no_empty_line}
use Rattle.text_lines.proofs.NumberLemmas.{IsNumber-decimal, one_number}
use Rattle.workload_text.specs.declared.error.WorkloadError.{WorkloadError}
use Rattle.workload_text.specs.declared.error.WorkloadError.TheVariants.{Header, Callers, BadLine, KeyRange, TooManyCalls}
use Rattle.workload_text.specs.Limits.{HasLawfulKey}
use Rattle.text_lines.specs.Calls.{call_text}
use Rattle.workload_text.specs.Text.{Line, version_line, callers_line, caller_line, call_line, phase_line, end_line, spelled, spelled_lines}
use Rattle.workload_text.specs.Following.{Place, at_start, behind_version, behind_callers, in_caller, behind_end, MayFollow, MayAllFollow, place_after, place_after_all}
use Rattle.workload_text.specs.Refusals.{IsAsked, HasTooLargeKey, IsCallLine, IsKind, Refuses}
use Rattle.workload_text.proofs.Sound.{IsSound, sound_after}
use Rattle.workload_text.proofs.Spelling.{feedless_line, same_spelling}

-- ---- a line is of one kind

same_digits : (word digits : List ℕ) (key n : ℕ) → n ≤ 1099511627773 → IsNumber digits key → 1099511627773 < key → word ++ 32 ∷ digits ≡ numbered word n → ⊥
same_digits word digits key n le number above e =
    let same : digits ≡ decimal n = let all = append_cancel_left word (32 ∷ digits) (32 ∷ decimal n) e in cc in
    let one = one_number (decimal n) key n (subst (λ (ds : List ℕ). IsNumber ds key) same number) (IsNumber-decimal n (omega arith)) in
    absurd (omega arith)

large_is_no_call : (text digits : List ℕ) (key : ℕ) (call : Call) → IsNumber digits key → 1099511627773 < key → HasLawfulKey call → IsAsked text digits → text ≢ call_text call
large_is_no_call text digits key (Insert n) number above h (inl e) f = same_digits (codes "i") digits key n h number above (sym e ∙ f)
large_is_no_call text digits key (Remove n) number above h (inl e) f = other_start (codes "i" ++ 32 ∷ digits) (numbered (codes "r") n) (λ k. omega (arith, k)) (sym e ∙ f)
large_is_no_call text digits key (Search n) number above h (inl e) f = other_start (codes "i" ++ 32 ∷ digits) (numbered (codes "s") n) (λ k. omega (arith, k)) (sym e ∙ f)
large_is_no_call text digits key (Insert n) number above h (inr (inl e)) f = other_start (codes "r" ++ 32 ∷ digits) (numbered (codes "i") n) (λ k. omega (arith, k)) (sym e ∙ f)
large_is_no_call text digits key (Remove n) number above h (inr (inl e)) f = same_digits (codes "r") digits key n h number above (sym e ∙ f)
large_is_no_call text digits key (Search n) number above h (inr (inl e)) f = other_start (codes "r" ++ 32 ∷ digits) (numbered (codes "s") n) (λ k. omega (arith, k)) (sym e ∙ f)
large_is_no_call text digits key (Insert n) number above h (inr (inr e)) f = other_start (codes "s" ++ 32 ∷ digits) (numbered (codes "i") n) (λ k. omega (arith, k)) (sym e ∙ f)
large_is_no_call text digits key (Remove n) number above h (inr (inr e)) f = other_start (codes "s" ++ 32 ∷ digits) (numbered (codes "r") n) (λ k. omega (arith, k)) (sym e ∙ f)
large_is_no_call text digits key (Search n) number above h (inr (inr e)) f = same_digits (codes "s") digits key n h number above (sym e ∙ f)

pub large_or_call : (text : List ℕ) → HasTooLargeKey text → IsCallLine text → ⊥
large_or_call text l c = large_is_no_call text l.digits l.key c.call l.number l.above c.key l.asked c.same

pub one_kind : (place : Place) (text : List ℕ) (number : ℕ) (e f : WorkloadError) → IsKind place text number e → IsKind place text number f → e ≡ f
one_kind at_start text number (Header a) (Header b) h k = ap Header (h ∙ sym k)
one_kind (behind_version version) text number (Callers a) (Callers b) h k = ap Callers (h ∙ sym k)
one_kind (behind_callers version count) text number (BadLine a) (BadLine b) h k = ap BadLine (h ∙ sym k)
one_kind (in_caller seen) text number (KeyRange a) (KeyRange b) h k = ap KeyRange (h.0 ∙ sym k.0)
one_kind (in_caller seen) text number (KeyRange a) (TooManyCalls b) h k = absurd (large_or_call text h.1 k.1)
one_kind (in_caller seen) text number (KeyRange a) (BadLine b) h k = absurd (k.1 h.1)
one_kind (in_caller seen) text number (TooManyCalls a) (KeyRange b) h k = absurd (large_or_call text k.1 h.1)
one_kind (in_caller seen) text number (TooManyCalls a) (TooManyCalls b) h k = ap TooManyCalls (h.0 ∙ sym k.0)
one_kind (in_caller seen) text number (TooManyCalls a) (BadLine b) h k = absurd (k.2 h.1)
one_kind (in_caller seen) text number (BadLine a) (KeyRange b) h k = absurd (h.1 k.1)
one_kind (in_caller seen) text number (BadLine a) (TooManyCalls b) h k = absurd (h.2 k.1)
one_kind (in_caller seen) text number (BadLine a) (BadLine b) h k = ap BadLine (h.0 ∙ sym k.0)
one_kind behind_end text number (BadLine a) (BadLine b) h k = ap BadLine (h ∙ sym k)
one_kind at_start text number (Header a) f h k = absurd k
one_kind (behind_version version) text number (Callers a) f h k = absurd k
one_kind (behind_callers version count) text number (BadLine a) f h k = absurd k
one_kind (in_caller seen) text number (KeyRange a) f h k = absurd k
one_kind (in_caller seen) text number (TooManyCalls a) f h k = absurd k
one_kind (in_caller seen) text number (BadLine a) f h k = absurd k
one_kind behind_end text number (BadLine a) f h k = absurd k
one_kind place text number e f h k = absurd h

-- ---- one refusal

one_refusal : (place : Place) (number : ℕ) (rest : List ℕ) (e f : WorkloadError) → Refuses place number rest e → Refuses place number rest f → e ≡ f
one_refusal place number rest e f (inl a) (inl b) =
    let both = same_line a.text b.text a.more b.more a.feedless b.feedless (sym a.same ∙ b.same) in
    one_kind place b.text number e f (subst (λ (t : List ℕ). IsKind place t number e) both.0 a.kind) b.kind
one_refusal place number rest e f (inl a) (inr (inl b)) = absurd (no_line rest a.text a.more b.feedless a.same)
one_refusal place number rest e f (inl a) (inr (inr b)) = absurd (no_line rest a.text a.more b.feedless a.same)
one_refusal place number rest e f (inr (inl a)) (inl b) = absurd (no_line rest b.text b.more a.feedless b.same)
one_refusal place number rest e f (inr (inr a)) (inl b) = absurd (no_line rest b.text b.more a.feedless b.same)
one_refusal place number rest e f (inr (inl a)) (inr (inl b)) = a.kind ∙ sym b.kind
one_refusal place number rest e f (inr (inl a)) (inr (inr b)) = absurd (b.open_still a.ended)
one_refusal place number rest e f (inr (inr a)) (inr (inl b)) = absurd (a.open_still b.ended)
one_refusal place number rest e f (inr (inr a)) (inr (inr b)) = a.kind ∙ sym b.kind

-- ---- one outcome

-- behind a run of lines is the end, or what is refused
abbrev pub HasOutcome : Place → ℕ → List ℕ → Option WorkloadError → Type 0
HasOutcome place number rest None = (place ≡ behind_end) × (rest ≡ [])
HasOutcome place number rest (Some e) = Refuses place number rest e

ended_or_refused : (place : Place) (number : ℕ) (rest : List ℕ) (e : WorkloadError) → place ≡ behind_end → rest ≡ [] → Refuses place number rest e → ⊥
ended_or_refused place number rest e at none (inl a) = no_empty_line a.text a.more (sym a.same ∙ none)
ended_or_refused place number rest e at none (inr (inl a)) = a.some none
ended_or_refused place number rest e at none (inr (inr a)) = a.open_still at

one_outcome : (place : Place) (number : ℕ) (rest : List ℕ) (o q : Option WorkloadError) → HasOutcome place number rest o → HasOutcome place number rest q → o ≡ q
one_outcome place number rest None None h k = refl
one_outcome place number rest None (Some f) h k = absurd (ended_or_refused place number rest f h.0 h.1 k)
one_outcome place number rest (Some e) None h k = absurd (ended_or_refused place number rest e k.0 k.1 h)
one_outcome place number rest (Some e) (Some f) h k = ap Some (one_refusal place number rest e f h k)

pub end_is_last : (next : Line) → MayFollow behind_end next → ⊥
end_is_last (version_line version) h = h
end_is_last (callers_line count) h = h
end_is_last (caller_line caller) h = h
end_is_last (call_line call) h = h
end_is_last phase_line h = h
end_is_last end_line h = h

none_behind : (place : Place) (next : Line) → place ≡ behind_end → MayFollow place next → ⊥
none_behind place next at m = end_is_last next (subst (λ (p : Place). MayFollow p next) at m)

-- where there is an outcome, no line that may follow comes next
no_more : (place : Place) (number lines : ℕ) (rest more : List ℕ) (o : Option WorkloadError) (next : Line) → IsSound place lines → HasOutcome place number rest o → MayFollow place next → rest ≢ line (spelled next) ++ more
no_more place number lines rest more None next s h m e = none_behind place next h.0 m
no_more place number lines rest more (Some f) next s (inl a) m e =
    a.none_follows next m (same_line a.text (spelled next) a.more more a.feedless (feedless_line place next lines s m) (sym a.same ∙ e)).0
no_more place number lines rest more (Some f) next s (inr (inl a)) m e = none_behind place next a.ended m
no_more place number lines rest more (Some f) next s (inr (inr a)) m e = no_line rest (spelled next) more a.feedless e

first_of_all : (x : Line) (xs : List Line) (r : List ℕ) → spelled_lines (x ∷ xs) ++ r ≡ line (spelled x) ++ (spelled_lines xs ++ r)
first_of_all x xs r = append_assoc (line (spelled x)) (spelled_lines xs) r

-- bytes begin with one run of lines behind which there is an outcome, and have one outcome
pub same_run : (xs ys : List Line) (place : Place) (lines a b : ℕ) (r s : List ℕ) (o q : Option WorkloadError) → IsSound place lines → MayAllFollow place xs → MayAllFollow place ys
    → spelled_lines xs ++ r ≡ spelled_lines ys ++ s → a ≡ lines + length xs → b ≡ lines + length ys → HasOutcome (place_after_all place xs) (a + 1) r o → HasOutcome (place_after_all place ys) (b + 1) s q → (xs ≡ ys) × (o ≡ q)
same_run [] [] place lines a b r s o q sound hx hy e ea eb ho hq =
    let same : a + 1 ≡ b + 1 = omega arith in
    (refl, one_outcome place (b + 1) s o q (subst (λ (n : ℕ). HasOutcome place n s o) same (subst (λ (t : List ℕ). HasOutcome place (a + 1) t o) e ho)) hq)
same_run [] (y ∷ ys) place lines a b r s o q sound hx hy e ea eb ho hq =
    absurd (no_more place (a + 1) lines r (spelled_lines ys ++ s) o y sound ho hy.0 (e ∙ first_of_all y ys s))
same_run (x ∷ xs) [] place lines a b r s o q sound hx hy e ea eb ho hq =
    absurd (no_more place (b + 1) lines s (spelled_lines xs ++ r) q x sound hq hx.0 (sym e ∙ first_of_all x xs r))
same_run (x ∷ xs) (y ∷ ys) place lines a b r s o q sound hx hy e ea eb ho hq =
    let split = same_line (spelled x) (spelled y) (spelled_lines xs ++ r) (spelled_lines ys ++ s) (feedless_line place x lines sound hx.0) (feedless_line place y lines sound hy.0) (sym (first_of_all x xs r) ∙ e ∙ first_of_all y ys s) in
    let one = same_spelling place x y lines sound hx.0 hy.0 split.0 in
    let back : place_after place y ≡ place_after place x = ap (λ (l : Line). place_after place l) (sym one) in
    let others = same_run xs ys (place_after place x) (lines + 1) a b r s o q (sound_after place x lines sound hx.0) hx.1 (subst (λ (p : Place). MayAllFollow p ys) back hy.1) split.1 (omega arith) (omega arith) ho (subst (λ (p : Place). HasOutcome (place_after_all p ys) (b + 1) s q) back hq) in
    let tails : xs ≡ ys = others.0 in
    (cc, others.1)

-- from the start
pub same_from_start : (xs ys : List Line) (r s : List ℕ) (o q : Option WorkloadError) → MayAllFollow at_start xs → MayAllFollow at_start ys → spelled_lines xs ++ r ≡ spelled_lines ys ++ s
    → HasOutcome (place_after_all at_start xs) (length xs + 1) r o → HasOutcome (place_after_all at_start ys) (length ys + 1) s q → (xs ≡ ys) × (o ≡ q)
same_from_start xs ys r s o q hx hy e ho hq = same_run xs ys at_start 0 (length xs) (length ys) r s o q refl hx hy e (omega arith) (omega arith) ho hq
