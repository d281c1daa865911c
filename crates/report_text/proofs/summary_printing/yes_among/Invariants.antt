use Rattle.std.proofs.Common.{◌≡◌, ◌+◌, ◌≤◌, drop}
use Rattle.report_text.specs.SummaryText.{yes_among}
use Rattle.report_text.proofs.summary_printing.yes_among.Given as goal

abbrev pub invariant-loop-i : goal.invariant-loop-i
invariant-loop-i l =
    (l.count + yes_among l.kind (drop l.i l.calls) (drop l.i l.replies) ≡ yes_among l.kind l.calls l.replies) × (l.count ≤ l.i)
