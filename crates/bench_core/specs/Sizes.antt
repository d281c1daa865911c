-- What `check` tells, why bytes are refused, and which workload words ask for.
use Rattle.std.specs.Prelude.{◌≡◌, ℕ, ◌*◌, ◌≤◌, ◌==◌, if◌then◌else◌, List, length, Option, Some, None}
use Rattle.command_words.specs.declared.command.Workloads.{Workloads}
use Rattle.report_text.specs.declared.checked.Checked.{Checked}
use Rattle.report_text.specs.declared.refusal.WorkloadRefusal.{WorkloadRefusal}
use Rattle.report_text.specs.declared.refusal.WorkloadRefusal.TheVariants as reason
use Rattle.workload_gen.specs.declared.plan.GenPlan.{GenPlan}
use Rattle.workload_text.specs.Limits.{Plan, phase_lines, total_of}
use Rattle.workload_text.specs.Refusals.{IsRefused}
use Rattle.workload_text.specs.declared.error.WorkloadError.{WorkloadError}
use Rattle.workload_text.specs.declared.error.WorkloadError.TheVariants as error

-- version 1 has no lines `phase` to tell of
abbrev pub phases_told : Plan → Option ℕ
phases_told plan = if plan.version == 1 then None else Some (phase_lines plan.lists)

-- the sizes of a workload
abbrev pub sizes_of : Plan → Checked
sizes_of plan = record { callers = length plan.lists; calls = total_of plan.lists; phases = phases_told plan }

-- the cause that is printed, of each but want of memory
abbrev pub reason_of : WorkloadError → Option WorkloadRefusal
reason_of (error.Header line) = Some reason.Header
reason_of (error.Callers line) = Some reason.Callers
reason_of (error.BadLine line) = Some (reason.BadLine line)
reason_of (error.KeyRange line) = Some (reason.KeyRange line)
reason_of error.NoEnd = Some reason.NoEnd
reason_of (error.TooManyCalls line) = Some (reason.TooManyCalls line)
reason_of error.OutOfMemory = None

-- the bytes are refused as a workload, for this cause
abbrev pub IsRefusedFor : List ℕ → WorkloadRefusal → Type 0
IsRefusedFor bytes cause = (refused : WorkloadError) × IsRefused bytes refused × (reason_of refused ≡ Some cause)

-- the plan is the one that the words choose
pub record IsPlanOf (chosen : Workloads) (plan : GenPlan) : Type 0 where
  pub callers : plan.callers ≡ chosen.callers
  pub calls : plan.calls ≡ chosen.calls
  pub keys : plan.keys ≡ chosen.keys
  pub seed : plan.seed ≡ chosen.seed
  pub shared : plan.shared ≡ chosen.shared

-- the sizes that words may choose
pub record AreSizes (chosen : Workloads) : Type 0 where
  pub some_caller : 1 ≤ chosen.callers
  pub few_callers : chosen.callers ≤ 64
  pub few_calls : chosen.calls * chosen.callers ≤ 1000000
  pub some_key : 1 ≤ chosen.keys
  pub few_keys : chosen.keys ≤ 268435456
