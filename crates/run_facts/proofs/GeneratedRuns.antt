-- Callers of a generated workload that isn't shared name keys of their own alone.
use Rattle.std.proofs.Common.{◌≡◌, ℕ, zero, suc, ◌+◌, ◌≤◌, false, List, [], ◌∷◌, length, map, Some, slice_get, sym, ap, ◌∙◌, subst, append-nil, arith}
use Rattle.std.specs.List.{AllByRecursion}
use Rattle.std.proofs.lemmas.List.Elements.{All-from_recursion}
use Rattle.set_model.specs.declared.calls.Call.{Call}
use Rattle.set_model.specs.declared.calls.Reply.{Reply}
use Rattle.set_model.specs.Keys.{empty}
use Rattle.set_model.specs.Machine.{key_of, replies_of}
use Rattle.record_memory.specs.declared.books.Book.{Book}
use Rattle.record_memory.specs.declared.books.Guard.{Guard}
use Rattle.record_memory.specs.declared.books.Setup.{Setup}
use Rattle.record_rule.specs.Facts.{ShapeFacts, CoverFacts}
use Rattle.record_rule.proofs.Lists.{below_at, get_at, map_at}
use Rattle.record_table.specs.Closing.{closed_books, IsClosedBy}
use Rattle.record_table.specs.declared.closing.Closed.{Closed}
use Rattle.workload_text.specs.Limits.{Plan, calls_of_all, joined, plan_of}
use Rattle.workload_gen.specs.declared.plan.GenPlan.{GenPlan}
use Rattle.workload_gen.specs.Generated.{caller_calls, callers_from, generated}
use Rattle.workload_gen.proofs.OwnKeys.{IsOwn, own_calls}
use Rattle.set_api.specs.declared.answer.Answer.{Answer}
use Rattle.run_facts.specs.Replies.{ArePlays}
use Rattle.run_facts.specs.Unshared.{calls_by, HasKey, ShareNoKey, NoneIsFull}
use Rattle.run_facts.proofs.AloneRuns.{got_at, unhelped_answered, alone_runs}

-- what holds of the keys of all calls holds of each
key_each : (P : ℕ → Type 0) (calls : List Call) (key : ℕ) → AllByRecursion (λ call. P (key_of call)) calls → HasKey calls key → P key
key_each P calls key all h =
    let own = All-from_recursion (λ (call : Call). P (key_of call)) calls all h.place h.call (below_at calls h.place h.call h.there) in
    subst P (ap key_of (get_at calls h.place h.call h.call h.there) ∙ h.key_is) own

module _ (sizes : GenPlan) (unshared : sizes.shared ≡ false) where
  own_from : (first count place key : ℕ) → first + count ≤ sizes.callers → HasKey (calls_by (map (λ calls. calls ∷ []) (callers_from sizes first count)) place) key → IsOwn sizes (first + place) key
  own_from first zero place key few h = absurd (omega (arith, below_at [] h.place h.call h.there))
  own_from first (suc count) zero key few h =
      let own = key_each (IsOwn sizes first) (caller_calls sizes first) key (own_calls sizes unshared first (omega (arith, few))) (subst (λ calls. HasKey calls key) (append-nil (caller_calls sizes first)) h) in
      subst (λ n. IsOwn sizes n key) (omega arith) own
  own_from first (suc count) (suc place) key few h = subst (λ n. IsOwn sizes n key) (omega arith) (own_from (first + 1) count place key (omega (arith, few)) h)

  own_key : (i key : ℕ) → HasKey (calls_by (plan_of (generated sizes)).lists i) key → IsOwn sizes i key
  own_key i key h = subst (λ n. IsOwn sizes n key) (omega arith) (own_from 0 sizes.callers i key (omega arith) h)

  pub generated_unshared : (plan : Plan) → plan ≡ plan_of (generated sizes) → ShareNoKey plan.lists
  generated_unshared plan is = subst (λ (p : Plan). ShareNoKey p.lists) (sym is) (λ i j key h k. sym (own_key i key h) ∙ own_key j key k)

  -- so each caller of a run of it that found a record whenever it needed one is told what it would be told alone
  pub generated_alone : {steps : Call → ℕ → Answer → Book → Book → Type 0} {budget : ℕ} {setup : Setup} {first : Guard} {bounds : List ℕ} (plan : Plan) → plan ≡ plan_of (generated sizes) → (s : ShapeFacts) (c : CoverFacts) (closed : Closed)
      → IsClosedBy s c closed → ¬ s.helped → (replies : List (List Reply)) → length replies ≡ length (closed_books closed) → ArePlays steps budget setup first plan.lists replies bounds (closed_books closed)
      → (i : ℕ) (own : List Reply) → slice_get replies i ≡ Some own → NoneIsFull own → own ≡ replies_of (calls_by plan.lists i) empty
  generated_alone plan is s c closed fits unhelped replies same plays = alone_runs s c closed fits (unhelped_answered s c closed fits unhelped) plan.lists replies same plays (generated_unshared plan is)

-- the calls of a caller, by its place among all
pub calls_joined : (lists : List (List (List Call))) (i : ℕ) (calls : List Call) → slice_get (joined lists) i ≡ Some calls → calls_by lists i ≡ calls
calls_joined lists i calls at = let h = map_at calls_of_all lists i calls (got_at (joined lists) i calls at) in ap calls_of_all (get_at lists i h.0 [] h.1) ∙ h.2
