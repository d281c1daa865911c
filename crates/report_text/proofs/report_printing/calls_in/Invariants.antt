use Rattle.std.proofs.Common.{◌≡◌, ◌*◌, ◌^◌, ◌≤◌, take}
use Rattle.report_text.specs.ReportText.{calls_in}
use Rattle.report_text.proofs.report_printing.calls_in.Given as goal

abbrev pub invariant-loop-played : goal.invariant-loop-played
invariant-loop-played l = (l.total ≡ calls_in (take l.played-index l.callers)) × (l.total ≤ 2 ^ 64 * l.played-index)
