use Rattle.std.proofs.Common.{◌≡◌, ◌*◌, ◌^◌, ◌≤◌, take}
use Rattle.report_text.specs.SummaryText.{yes_in}
use Rattle.report_text.proofs.summary_printing.yes_in.Given as goal

abbrev pub invariant-loop-played : goal.invariant-loop-played
invariant-loop-played l = (l.total ≡ yes_in l.kind (take l.played-index l.callers)) × (l.total ≤ 2 ^ 64 * l.played-index)
