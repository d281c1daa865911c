-- The workload of a plan: which calls each caller makes.
use Rattle.std.specs.Prelude.{ℕ, zero, suc, ◌+◌, ◌*◌, ◌%◌, ◌==◌, ◌||◌, cond, List, [], ◌∷◌}
use Rattle.set_model.specs.declared.calls.Call.{Call}
use Rattle.set_model.specs.declared.calls.Call.TheVariants.{Insert, Remove, Search}
use Rattle.rand_pcg.specs.Lcg.{Lcg, started, increment_of}
use Rattle.rand_pcg.specs.Pcg.{multiplier_64, pcg32}
use Rattle.workload_gen.specs.declared.plan.GenPlan.{GenPlan}

-- the generator of a caller's words: PCG's, of 64 bits of state and words of 32 bits, with the caller's number as its stream
abbrev pub words_of : ℕ → ℕ → Lcg
words_of seed caller = started 64 multiplier_64 seed (increment_of 64 caller)

-- the call by a word: of four, two insert, one removes and one searches
abbrev pub call_by : ℕ → ℕ → Call
call_by word key = cond (word % 4 == 0 || word % 4 == 1) (Insert key) (cond (word % 4 == 2) (Remove key) (Search key))

-- the key by a word: the callers share the keys, or each has keys of its own
abbrev pub key_by : GenPlan → ℕ → ℕ → ℕ
key_by plan caller word = cond plan.shared (word % plan.keys) (word % plan.keys * plan.callers + caller)

-- so many calls of a caller, from these words on: the first word of each call says what it does, the second gives its key
abbrev pub calls_from : GenPlan → ℕ → ℕ → Lcg → List Call
calls_from plan caller zero words = []
calls_from plan caller (suc count) words =
    let first = pcg32 words in
    let second = pcg32 first.1 in
    call_by first.0 (key_by plan caller second.0) ∷ calls_from plan caller count second.1

-- all calls of a caller
abbrev pub caller_calls : GenPlan → ℕ → List Call
caller_calls plan caller = calls_from plan caller plan.calls (words_of plan.seed caller)

-- the calls of so many callers, which are numbered from `first` on
abbrev pub callers_from : GenPlan → ℕ → ℕ → List (List Call)
callers_from plan first zero = []
callers_from plan first (suc count) = caller_calls plan first ∷ callers_from plan (first + 1) count

-- the calls of each caller
abbrev pub generated : GenPlan → List (List Call)
generated plan = callers_from plan 0 plan.callers
