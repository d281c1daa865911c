-- How lines are spelled: without a line feed, and each in its own way where it may follow.
use Rattle.std.proofs.Common.{◌≡◌, ◌≢◌, ℕ, ◌^◌, ◌<◌, ◌⊎◌, inl, inr, List, codes, refl, sym, ap, ◌∙◌, arith, get_or}
use Rattle.set_model.specs.declared.calls.Call.{Call}
use Rattle.set_model.specs.declared.calls.Call.TheVariants.{Insert, Remove, Search}
use Rattle.text_lines.specs.Lines.{numbered, HasNoFeed}
use Rattle.text_lines.proofs.FeedLemmas.{feedless_numbered, feedless_by_test, other_start, same_number}
use Rattle.workload_text.specs.Limits.{HasLawfulKey}
use Rattle.text_lines.specs.Calls.{call_text}
use Rattle.workload_text.specs.Text.{Line, version_line, callers_line, caller_line, call_line, phase_line, end_line, spelled}
use Rattle.workload_text.specs.Following.{Place, at_start, behind_version, behind_callers, in_caller, MayFollow}
use Rattle.workload_text.proofs.Sound.{IsSound}

pub feedless_call : (call : Call) → HasLawfulKey call → HasNoFeed (call_text call)
feedless_call (Insert key) h = feedless_numbered (codes "i") key (omega arith, tt) (omega arith)
feedless_call (Remove key) h = feedless_numbered (codes "r") key (omega arith, tt) (omega arith)
feedless_call (Search key) h = feedless_numbered (codes "s") key (omega arith, tt) (omega arith)

version_fits : (version : ℕ) → (version ≡ 1) ⊎ (version ≡ 2) → version < 2 ^ 64
version_fits version (inl e) = omega arith
version_fits version (inr e) = omega arith

pub feedless_caller : (caller : ℕ) → caller < 2 ^ 64 → HasNoFeed (spelled (caller_line caller))
feedless_caller caller h = feedless_numbered (codes "caller") caller (feedless_by_test (codes "caller") refl) h

pub feedless_line : (place : Place) (line : Line) (lines : ℕ) → IsSound place lines → MayFollow place line → HasNoFeed (spelled line)
feedless_line at_start (version_line version) lines h m = feedless_numbered (codes "setbench") version (feedless_by_test (codes "setbench") refl) (version_fits version m)
feedless_line (behind_version version) (callers_line count) lines h m = feedless_numbered (codes "callers") count (feedless_by_test (codes "callers") refl) (omega (arith, m.1))
feedless_line (behind_callers version count) (caller_line caller) lines h m = feedless_caller caller (omega (arith, m))
feedless_line (in_caller seen) (call_line call) lines h m = feedless_call call m.0
feedless_line (in_caller seen) phase_line lines h m = feedless_by_test (codes "phase") refl
feedless_line (in_caller seen) (caller_line caller) lines h m = feedless_caller caller (omega (arith, m.1, h.few_callers))
feedless_line (in_caller seen) end_line lines h m = feedless_by_test (codes "end") refl
feedless_line place line lines h m = absurd m

-- what starts with another letter is no call
pub call_start : (call : Call) (xs : List ℕ) → get_or xs 0 0 ≢ 105 → get_or xs 0 0 ≢ 114 → get_or xs 0 0 ≢ 115 → call_text call ≢ xs
call_start (Insert key) xs i r s = other_start (call_text (Insert key)) xs (λ h. i (sym h))
call_start (Remove key) xs i r s = other_start (call_text (Remove key)) xs (λ h. r (sym h))
call_start (Search key) xs i r s = other_start (call_text (Search key)) xs (λ h. s (sym h))

pub call_or_phase : (call : Call) → call_text call ≢ codes "phase"
call_or_phase call = call_start call (codes "phase") (λ h. omega (arith, h)) (λ h. omega (arith, h)) (λ h. omega (arith, h))

pub call_or_end : (call : Call) → call_text call ≢ codes "end"
call_or_end call = call_start call (codes "end") (λ h. omega (arith, h)) (λ h. omega (arith, h)) (λ h. omega (arith, h))

pub call_or_caller : (call : Call) (n : ℕ) → call_text call ≢ numbered (codes "caller") n
call_or_caller call n = call_start call (numbered (codes "caller") n) (λ h. omega (arith, h)) (λ h. omega (arith, h)) (λ h. omega (arith, h))

pub phase_or_end : codes "phase" ≢ codes "end"
phase_or_end = other_start (codes "phase") (codes "end") (λ h. omega (arith, h))

pub phase_or_caller : (n : ℕ) → codes "phase" ≢ numbered (codes "caller") n
phase_or_caller n = other_start (codes "phase") (numbered (codes "caller") n) (λ h. omega (arith, h))

pub end_or_caller : (n : ℕ) → codes "end" ≢ numbered (codes "caller") n
end_or_caller n = other_start (codes "end") (numbered (codes "caller") n) (λ h. omega (arith, h))

-- each call has a line of its own
pub same_call : (a b : Call) → HasLawfulKey a → HasLawfulKey b → call_text a ≡ call_text b → a ≡ b
same_call (Insert a) (Insert b) ha hb e = ap Insert (same_number (codes "i") a b (omega arith) (omega arith) e)
same_call (Remove a) (Remove b) ha hb e = ap Remove (same_number (codes "r") a b (omega arith) (omega arith) e)
same_call (Search a) (Search b) ha hb e = ap Search (same_number (codes "s") a b (omega arith) (omega arith) e)
same_call (Insert a) (Remove b) ha hb e = absurd (other_start (call_text (Insert a)) (call_text (Remove b)) (λ h. omega (arith, h)) e)
same_call (Insert a) (Search b) ha hb e = absurd (other_start (call_text (Insert a)) (call_text (Search b)) (λ h. omega (arith, h)) e)
same_call (Remove a) (Insert b) ha hb e = absurd (other_start (call_text (Remove a)) (call_text (Insert b)) (λ h. omega (arith, h)) e)
same_call (Remove a) (Search b) ha hb e = absurd (other_start (call_text (Remove a)) (call_text (Search b)) (λ h. omega (arith, h)) e)
same_call (Search a) (Insert b) ha hb e = absurd (other_start (call_text (Search a)) (call_text (Insert b)) (λ h. omega (arith, h)) e)
same_call (Search a) (Remove b) ha hb e = absurd (other_start (call_text (Search a)) (call_text (Remove b)) (λ h. omega (arith, h)) e)

-- two lines that may follow are spelled in two ways
pub same_spelling : (place : Place) (x y : Line) (lines : ℕ) → IsSound place lines → MayFollow place x → MayFollow place y → spelled x ≡ spelled y → x ≡ y
same_spelling at_start (version_line a) (version_line b) lines h mx my e = ap version_line (same_number (codes "setbench") a b (version_fits a mx) (version_fits b my) e)
same_spelling (behind_version version) (callers_line a) (callers_line b) lines h mx my e = ap callers_line (same_number (codes "callers") a b (omega (arith, mx.1)) (omega (arith, my.1)) e)
same_spelling (behind_callers version count) (caller_line a) (caller_line b) lines h mx my e = ap caller_line (mx ∙ sym my)
same_spelling (in_caller seen) (call_line a) (call_line b) lines h mx my e = ap call_line (same_call a b mx.0 my.0 e)
same_spelling (in_caller seen) (call_line a) phase_line lines h mx my e = absurd (call_or_phase a e)
same_spelling (in_caller seen) (call_line a) (caller_line n) lines h mx my e = absurd (call_or_caller a n e)
same_spelling (in_caller seen) (call_line a) end_line lines h mx my e = absurd (call_or_end a e)
same_spelling (in_caller seen) phase_line (call_line b) lines h mx my e = absurd (call_or_phase b (sym e))
same_spelling (in_caller seen) phase_line phase_line lines h mx my e = refl
same_spelling (in_caller seen) phase_line (caller_line n) lines h mx my e = absurd (phase_or_caller n e)
same_spelling (in_caller seen) phase_line end_line lines h mx my e = absurd (phase_or_end e)
same_spelling (in_caller seen) (caller_line a) (call_line b) lines h mx my e = absurd (call_or_caller b a (sym e))
same_spelling (in_caller seen) (caller_line a) phase_line lines h mx my e = absurd (phase_or_caller a (sym e))
same_spelling (in_caller seen) (caller_line a) (caller_line b) lines h mx my e = ap caller_line (mx.0 ∙ sym my.0)
same_spelling (in_caller seen) (caller_line a) end_line lines h mx my e = absurd (end_or_caller a (sym e))
same_spelling (in_caller seen) end_line (call_line b) lines h mx my e = absurd (call_or_end b (sym e))
same_spelling (in_caller seen) end_line phase_line lines h mx my e = absurd (phase_or_end (sym e))
same_spelling (in_caller seen) end_line (caller_line n) lines h mx my e = absurd (end_or_caller n e)
same_spelling (in_caller seen) end_line end_line lines h mx my e = refl
same_spelling at_start (version_line a) line lines h mx my e = absurd my
same_spelling (behind_version version) (callers_line a) line lines h mx my e = absurd my
same_spelling (behind_callers version count) (caller_line a) line lines h mx my e = absurd my
same_spelling (in_caller seen) (call_line a) line lines h mx my e = absurd my
same_spelling (in_caller seen) phase_line line lines h mx my e = absurd my
same_spelling (in_caller seen) (caller_line a) line lines h mx my e = absurd my
same_spelling (in_caller seen) end_line line lines h mx my e = absurd my
same_spelling place x y lines h mx my e = absurd mx
