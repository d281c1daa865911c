use Rattle.std.proofs.Common.{◌≡◌, take}
use Rattle.workload_text.specs.Limits.{lists_of, phases_held}
use Rattle.workload_text.specs.Cuts.{cut_all, AllAreCuts, cuts_of}
use Rattle.workload_text.proofs.workload.Workload.with_phases.Given as goal

abbrev pub invariant-loop-phases : goal.invariant-loop-phases
invariant-loop-phases l = record {
  lists : cut_all (lists_of l.joined_lists.items) (cuts_of l.cut_lists.items) ≡ take l.phases-index (phases_held l.phases-items);
  cut : AllAreCuts (lists_of l.joined_lists.items) (cuts_of l.cut_lists.items);
}
