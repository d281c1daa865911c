-- Workloads whose callers share no key.
use Rattle.std.specs.Prelude.{◌≡◌, ◌≢◌, ℕ, List, All}
use Rattle.set_model.specs.declared.calls.Call.{Call}
use Rattle.set_model.specs.declared.calls.Reply.{Reply}
use Rattle.set_model.specs.declared.calls.Reply.TheVariants.{Full}
use Rattle.set_model.specs.Machine.{key_of}
use Rattle.record_rule.specs.Facts.{At}
use Rattle.workload_text.specs.Limits.{calls_of_all}
use Rattle.set_runs.specs.Playing.{phases_of}

-- all calls of a caller, phase after phase
abbrev pub calls_by : List (List (List Call)) → ℕ → List Call
calls_by lists number = calls_of_all (phases_of lists number)

-- one of these calls names this key
pub record HasKey (calls : List Call) (key : ℕ) : Type 0 where
  pub place : ℕ
  pub call : Call
  pub there : At calls place call
  pub key_is : key_of call ≡ key

-- Callers that name one key are one caller
abbrev pub ShareNoKey : List (List (List Call)) → Type 0
ShareNoKey lists = (i j key : ℕ) → HasKey (calls_by lists i) key → HasKey (calls_by lists j) key → i ≡ j

-- a record was found for each call that needed one
abbrev pub NoneIsFull : List Reply → Type 0
NoneIsFull replies = All (λ reply. reply ≢ Full) replies
