-- The lines of a report, from the front.
use Rattle.std.proofs.Common.{◌≡◌, ℕ, suc, ◌+◌, ◌<◌, List, ◌∷◌, ◌++◌, length, get_or, drop, sym, ap, refl, ◌∙◌, add-one, drop-cons, arith}
use Rattle.std.proofs.lemmas.List.Concat.{flat_map-append}
use Rattle.set_model.specs.declared.calls.Call.{Call}
use Rattle.set_model.specs.declared.calls.Reply.{Reply}
use Rattle.text_lines.specs.Lines.{line, lines_text}
use Rattle.report_text.specs.declared.report.Played.{Played}
use Rattle.report_text.specs.ReportText.{answered_text, answered_lines, played_lines, callers_lines}

pub answered_lines-drop : (calls : List Call) (replies : List Reply) (i : ℕ) (call : Call) (reply : Reply) → i < length calls → length calls ≡ length replies
    → lines_text (answered_lines (drop i calls) (drop i replies)) ≡ line (answered_text (get_or calls i call) (get_or replies i reply)) ++ lines_text (answered_lines (drop (i + 1) calls) (drop (i + 1) replies))
answered_lines-drop calls replies i call reply within paired =
    let within_replies : i < length replies = omega arith in
    rw (drop-cons calls i call, drop-cons replies i reply, add-one) refl

pub callers_lines-drop : (callers : List Played) (i : ℕ) (played : Played) → i < length callers → played ≡ get_or callers i played
    → lines_text (callers_lines i (drop i callers)) ≡ lines_text (played_lines i played) ++ lines_text (callers_lines (i + 1) (drop (i + 1) callers))
callers_lines-drop callers i played within is =
    ap (λ rest. lines_text (callers_lines i rest)) (drop-cons callers i played within ∙ ap (λ p. p ∷ drop (suc i) callers) (sym is))
    ∙ flat_map-append line (played_lines i played) (callers_lines (i + 1) (drop (suc i) callers))
    ∙ ap (λ n. lines_text (played_lines i played) ++ lines_text (callers_lines (i + 1) (drop n callers))) (sym (add-one i))
