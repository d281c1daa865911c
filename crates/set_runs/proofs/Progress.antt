-- A caller that plays one phase more.
use Rattle.std.proofs.Common.{◌≡◌, ℕ, zero, suc, ◌+◌, ◌≤◌, ◌<◌, List, [], ◌∷◌, ◌++◌, length, length-append, get_or, take, sum_by, vec_capacity, refl, sym, ap, ◌∙◌, subst, arith, add-one}
use Rattle.std.specs.List.{AllByRecursion}
use Rattle.std.proofs.Math.Seq.{take-suc}
use Rattle.std.proofs.lemmas.List.Sums.{sum_by_push, sum_by_more_le, get_or-le-sum_by}
use Rattle.set_model.specs.declared.calls.Call.{Call}
use Rattle.set_model.specs.declared.calls.Call.TheVariants.{Insert}
use Rattle.set_model.specs.declared.calls.Reply.{Reply}
use Rattle.record_memory.specs.declared.books.Book.{Book}
use Rattle.record_memory.specs.declared.books.View.{View}
use Rattle.workload_text.specs.Limits.{Plan, IsWorkload, phase_lines}
use Rattle.set_api.specs.declared.answer.Answer.{Answer}
use Rattle.set_api.specs.Turns.{Turn, Turns, Phases}
use Rattle.set_runs.specs.declared.players.Player.{Player}
use Rattle.set_runs.specs.Playing.{phases_of, calls_at, HasMet, IsReady, HasPlayed, IsAt}

-- what holds of each element holds of the one at a place
pub by_recursion_at : {X : Type 0} (P : X → Type 0) (xs : List X) (i : ℕ) (d : X) → AllByRecursion P xs → i < length xs → P (get_or xs i d)
by_recursion_at P [] i d h within = absurd (omega (arith, within))
by_recursion_at P (x ∷ xs) zero d h within = h.0
by_recursion_at P (x ∷ xs) (suc i) d h within = by_recursion_at P xs i d h.1 (omega (arith, within))

-- one call more is answered
pub turns_more : {steps : Call → ℕ → Answer → Book → Book → Type 0} {budget : ℕ} {replies : List Reply} {r : Reply} {u v w : View} (calls : List Call) (i : ℕ) → i < length calls
    → Turns steps budget (take i calls) replies u v → Turn steps budget (get_or calls i (Insert 0)) r v w → Turns steps budget (take (i + 1) calls) (replies ++ r ∷ []) u w
turns_more {steps} {budget} {replies} {r} {u} {v} {w} calls i there before turn =
    rw (add-one i) (subst (λ l. Turns steps budget l (replies ++ r ∷ []) u w) (sym (take-suc calls i (Insert 0) there)) (Turns.next before turn))

-- each call has its reply
pub turns_length : {steps : Call → ℕ → Answer → Book → Book → Type 0} {budget : ℕ} {calls : List Call} {replies : List Reply} {u v : View} → Turns steps budget calls replies u v → length replies ≡ length calls
turns_length Turns.none = refl
turns_length (Turns.next {calls = calls} {replies = replies} {call = call} {r = r} before turn) = length-append replies (r ∷ []) ∙ ap (λ n. n + 1) (turns_length before) ∙ sym (length-append calls (call ∷ []))

-- of a lawful workload each caller has all phases, and not more calls than there may be
pub phases_there : (plan : Plan) (i phase : ℕ) → IsWorkload plan → i < length plan.lists → phase < phase_lines plan.lists + 1 → phase < length (phases_of plan.lists i)
phases_there plan i phase limits within before = subst (λ n. phase < n) (sym (by_recursion_at (λ (phases : List (List Call)). length phases ≡ phase_lines plan.lists + 1) plan.lists i [] limits.same_phases within)) before

pub calls_few : (plan : Plan) (i : ℕ) → IsWorkload plan → i < length plan.lists → sum_by length (phases_of plan.lists i) ≤ 1000000
calls_few plan i limits within = omega (arith, get_or-le-sum_by (λ (phases : List (List Call)). sum_by length phases) plan.lists i [] within, limits.few_calls)

module _ {T C : Type 0} (has : T → C → Type 0) (set' : T) (lists : List (List (List Call))) (view : C → View) (steps : Call → ℕ → Answer → Book → Book → Type 0) (budget : ℕ) where
  -- it is ready for the next phase once it has met the others
  pub ready_next : (phase i bound : ℕ) (bounds : List ℕ) (start : View) (p q : Player C) → IsAt has set' lists phase view steps budget bounds i start p → HasMet has set' view bound p q
      → i < length lists → phase < length (phases_of lists i) → sum_by length (phases_of lists i) ≤ 1000000 → IsReady has set' lists phase q
  ready_next phase i bound bounds start p q at met within before few =
      let number : q.number ≡ i = met.same.same_number ∙ at.number_is in
      let left = sum_by_more_le length (phases_of lists i) phase [] before in
      let calls = ap (λ n. length (calls_at lists n phase)) number in
      record {
        has_it = met.same.has_it;
        number = subst (λ n. n < length lists) (sym number) within;
        few_calls = omega (arith, ap (λ r. length r.items) met.same.same_replies, at.counted, calls, left, few);
        room = omega (arith, ap (λ r. length r.items) met.same.same_replies, ap (λ r. vec_capacity r) met.same.same_replies, at.counted, calls, left, at.room);
      }

  -- and behind the next phase once it has played it
  pub at_next : (phase i bound : ℕ) (bounds : List ℕ) (start : View) (p q r : Player C) → IsAt has set' lists phase view steps budget bounds i start p → HasMet has set' view bound p q → HasPlayed has set' lists phase view steps budget q r
      → phase < length (phases_of lists i) → IsAt has set' lists (phase + 1) view steps budget (bounds ++ bound ∷ []) i start r
  at_next phase i bound bounds start p q r at met played before =
      let phases = phases_of lists i in
      let number : q.number ≡ i = met.same.same_number ∙ at.number_is in
      let next : take (phase + 1) phases ≡ take phase phases ++ get_or phases phase [] ∷ [] = rw (add-one phase) (take-suc phases phase [] before) in
      let turns = subst (λ n. Turns steps budget (calls_at lists n phase) played.replies (view q.caller) (view r.caller)) number played.turns in
      let items : r.replies.items ≡ p.replies.items ++ played.replies = played.noted ∙ ap (λ l. l.items ++ played.replies) met.same.same_replies in
      record {
        has_it = played.has_it;
        number_is = played.same_number ∙ number;
        played = subst (λ ps. Phases steps budget ps r.replies.items (bounds ++ bound ∷ []) start (view r.caller)) (sym next)
            (subst (λ l. Phases steps budget (take phase phases ++ get_or phases phase [] ∷ []) l (bounds ++ bound ∷ []) start (view r.caller)) (sym items) (Phases.next at.played met.met turns));
        counted = omega (
          arith,
          ap length items,
          length-append p.replies.items played.replies,
          at.counted,
          turns_length turns,
          ap (λ ps. sum_by length ps) next,
          sum_by_push length (take phase phases) (get_or phases phase []),
        );
        room = omega (arith, ap (λ l. vec_capacity l) met.same.same_replies, at.room, played.same_capacity);
      }
