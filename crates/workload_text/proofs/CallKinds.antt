-- Of what kind a line among calls is.
use Rattle.std.proofs.Common.{◌≡◌, ◌≢◌, ℕ, ◌+◌, ◌^◌, ◌<◌, ◌≤◌, inl, inr, List, ◌∷◌, ◌++◌, codes, sym, ap, subst, ◌∙◌, arith}
use Rattle.std.specs.Fmt.{decimal}
use Rattle.std.proofs.lemmas.List.{append_cancel_left}
use Rattle.set_model.specs.declared.calls.Call.{Call}
use Rattle.set_model.specs.declared.calls.Call.TheVariants.{Insert, Remove, Search}
use Rattle.set_model.specs.Machine.{key_of}
use Rattle.text_lines.specs.Lines.{numbered}
use Rattle.text_lines.specs.Numbers.{IsNumber}
use Rattle.text_lines.proofs.FeedLemmas.{other_start, same_number}
use Rattle.workload_text.specs.declared.seen.Seen.{Seen}
use Rattle.text_lines.specs.Calls.{call_text}
use Rattle.workload_text.specs.Text.{Line, version_line, callers_line, caller_line, call_line, phase_line, end_line, spelled}
use Rattle.workload_text.specs.Following.{in_caller, MayFollow}
use Rattle.workload_text.specs.Turns.{IsNoCall}
use Rattle.workload_text.specs.Refusals.{IsAsked, HasTooLargeKey, IsCallLine}
use Rattle.workload_text.proofs.LineFacts.{is_number}
use Rattle.workload_text.proofs.Spelling.{phase_or_caller, end_or_caller}

same_behind : (word a b : List ℕ) → word ++ 32 ∷ a ≡ word ++ 32 ∷ b → a ≡ b
same_behind word a b e = let all = append_cancel_left word (32 ∷ a) (32 ∷ b) e in cc

asked_same : (text a b : List ℕ) → IsAsked text a → IsAsked text b → a ≡ b
asked_same text a b (inl e) (inl f) = same_behind (codes "i") a b (sym e ∙ f)
asked_same text a b (inl e) (inr (inl f)) = absurd (other_start (codes "i" ++ 32 ∷ a) (codes "r" ++ 32 ∷ b) (λ k. omega (arith, k)) (sym e ∙ f))
asked_same text a b (inl e) (inr (inr f)) = absurd (other_start (codes "i" ++ 32 ∷ a) (codes "s" ++ 32 ∷ b) (λ k. omega (arith, k)) (sym e ∙ f))
asked_same text a b (inr (inl e)) (inl f) = absurd (other_start (codes "r" ++ 32 ∷ a) (codes "i" ++ 32 ∷ b) (λ k. omega (arith, k)) (sym e ∙ f))
asked_same text a b (inr (inl e)) (inr (inl f)) = same_behind (codes "r") a b (sym e ∙ f)
asked_same text a b (inr (inl e)) (inr (inr f)) = absurd (other_start (codes "r" ++ 32 ∷ a) (codes "s" ++ 32 ∷ b) (λ k. omega (arith, k)) (sym e ∙ f))
asked_same text a b (inr (inr e)) (inl f) = absurd (other_start (codes "s" ++ 32 ∷ a) (codes "i" ++ 32 ∷ b) (λ k. omega (arith, k)) (sym e ∙ f))
asked_same text a b (inr (inr e)) (inr (inl f)) = absurd (other_start (codes "s" ++ 32 ∷ a) (codes "r" ++ 32 ∷ b) (λ k. omega (arith, k)) (sym e ∙ f))
asked_same text a b (inr (inr e)) (inr (inr f)) = same_behind (codes "s") a b (sym e ∙ f)

asked_of_call : (text : List ℕ) (call : Call) → text ≡ call_text call → IsAsked text (decimal (key_of call))
asked_of_call text (Insert key) e = inl e
asked_of_call text (Remove key) e = inr (inl e)
asked_of_call text (Search key) e = inr (inr e)

-- a line with a lawful key is a call
pub call_of_asked : (text digits : List ℕ) (n : ℕ) → IsAsked text digits → digits ≡ decimal n → n ≤ 1099511627773 → IsCallLine text
call_of_asked text digits n (inl e) f le = record { call = Insert n; key = le; same = e ∙ ap (λ (ds : List ℕ). codes "i" ++ 32 ∷ ds) f }
call_of_asked text digits n (inr (inl e)) f le = record { call = Remove n; key = le; same = e ∙ ap (λ (ds : List ℕ). codes "r" ++ 32 ∷ ds) f }
call_of_asked text digits n (inr (inr e)) f le = record { call = Search n; key = le; same = e ∙ ap (λ (ds : List ℕ). codes "s" ++ 32 ∷ ds) f }

-- what has no letter of a call is none, and has no key
pub none_asked : (text : List ℕ) → ((digits : List ℕ) → ¬ (IsAsked text digits)) → (¬ (HasTooLargeKey text)) × (¬ (IsCallLine text))
none_asked text none = (λ l. none l.digits l.asked, λ c. none (decimal (key_of c.call)) (asked_of_call text c.call c.same))

-- what has no number behind the letter is none, and has no key
pub none_numbered : (text digits : List ℕ) → IsAsked text digits → ((n : ℕ) → ¬ (IsNumber digits n)) → (¬ (HasTooLargeKey text)) × (¬ (IsCallLine text))
none_numbered text digits asked none = (
  λ l. none l.key (subst (λ (ds : List ℕ). IsNumber ds l.key) (asked_same text l.digits digits l.asked asked) l.number),
  λ c. none (key_of c.call) (let h : key_of c.call ≤ 1099511627773 = c.key in is_number digits (key_of c.call) (omega arith) (asked_same text digits (decimal (key_of c.call)) asked (asked_of_call text c.call c.same))),
)

-- what is neither a call that may stand here nor another line that may
pub none_of_all : (seen : Seen) (text : List ℕ) → ((call : Call) → MayFollow (in_caller seen) (call_line call) → text ≢ call_text call) → ((next : Line) → IsNoCall next → MayFollow (in_caller seen) next → text ≢ spelled next)
    → (next : Line) → MayFollow (in_caller seen) next → text ≢ spelled next
none_of_all seen text calls others (call_line call) m = calls call m
none_of_all seen text calls others (version_line version) m = others (version_line version) tt m
none_of_all seen text calls others (callers_line count) m = others (callers_line count) tt m
none_of_all seen text calls others (caller_line caller) m = others (caller_line caller) tt m
none_of_all seen text calls others phase_line m = others phase_line tt m
none_of_all seen text calls others end_line m = others end_line tt m

-- a caller's line that may not stand here
pub no_turn : (seen : Seen) (text : List ℕ) (caller : ℕ) → seen.callers ≤ 64 → caller ≤ 64 → text ≡ numbered (codes "caller") caller → (caller ≡ seen.caller + 1 → caller < seen.callers → ⊥)
    → (next : Line) → IsNoCall next → MayFollow (in_caller seen) next → text ≢ spelled next
no_turn seen text caller few le is none (call_line call) i m e = absurd i
no_turn seen text caller few le is none (version_line version) i m e = absurd m
no_turn seen text caller few le is none (callers_line count) i m e = absurd m
no_turn seen text caller few le is none (caller_line n) i m e =
    let fits : n < 2 ^ 64 = omega (arith, m.1) in
    let same = same_number (codes "caller") caller n (omega arith) fits (sym is ∙ e) in
    none (same ∙ m.0) (omega (arith, m.1))
no_turn seen text caller few le is none phase_line i m e = phase_or_caller caller (sym e ∙ is)
no_turn seen text caller few le is none end_line i m e = end_or_caller caller (sym e ∙ is)
