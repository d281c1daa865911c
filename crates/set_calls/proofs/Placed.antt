-- What was seen of a key may be answered, and what placing the answer leaves.
use Rattle.std.proofs.Common.{◌≡◌, ℕ, ◌+◌, ◌-◌, List, [], ◌∷◌, ◌++◌, length, length-append, take, Bool, not, sym, refl, ap, ◌∙◌, subst, arith}
use Rattle.std.proofs.lemmas.List.{take-append-le, length-take-le}
use Rattle.std.proofs.Math.Seq.{take-length, take-append-add}
use Rattle.set_model.specs.declared.calls.Call.{Call}
use Rattle.set_model.specs.declared.calls.Update.{Update}
use Rattle.set_model.specs.declared.names.SetName.{SetName}
use Rattle.set_model.specs.Keys.{contains}
use Rattle.set_model.specs.Machine.{key_of}
use Rattle.set_model.specs.Histories.{keys_of}
use Rattle.record_memory.specs.declared.books.View.{View}
use Rattle.record_rule.specs.Facts.{ShapeFacts}
use Rattle.record_rule.specs.Machines.{set_replies, replies_for}
use Rattle.record_rule.specs.World.{StartsWith}
use Rattle.record_rule.specs.Links.{read_at}
use Rattle.record_rule.specs.Placing.{placed_view}
use Rattle.record_rule.proofs.Rebuilt.{starts_then}
use Rattle.record_table.specs.declared.passes.Pass.{Pass}
use Rattle.record_table.specs.Handles.{view}
use Rattle.record_table.specs.Nodes.{MayPlaceIn}
use Rattle.manager.specs.Callers.{AnswersNone}
use Rattle.set_calls.specs.Knowing.{IsOfKeys, of_plain, of_michael, of_lazy, IsAnswer, insertion, removal, search_, HasSeenKey}
use Rattle.set_calls.specs.Answers.{Read}
use Rattle.set_calls.proofs.Answering.{read_since}

-- as the machine of a set of keys does
machine_says : (updates : List Update) (call : Call) (present reply : Bool) → IsAnswer call present reply → contains (keys_of updates) (key_of call) ≡ present → set_replies updates call reply
machine_says updates _ _ _ (insertion key) e = (refl, ap not (sym e))
machine_says updates _ _ _ (removal key) e = (refl, sym e)
machine_says updates _ _ _ (search_ key present) e = (tt, sym e)

-- which is the machine by the set's name
named_says : (name : SetName) (updates : List Update) (call : Call) (reply : Bool) → IsOfKeys name → set_replies updates call reply → replies_for name updates call reply
named_says _ updates call reply of_plain says = says
named_says _ updates call reply of_michael says = says
named_says _ updates call reply of_lazy says = says

module _ (s : ShapeFacts) {S R : Type 0} (p : Pass S R) (call : Call) (present reply : Bool) {position : ℕ} (seen : HasSeenKey p (key_of call) present position) where
  -- the answer may be placed behind the updates of which it was seen, where nobody else may decide the call
  pub may_answer : ¬ s.helped → IsAnswer call present reply → MayPlaceIn s (view p) position call reply
  may_answer unhelped is = subst (λ k. MayPlaceIn s (view p) k call reply) seen.many (record {
    since_start = seen.since_start;
    may = record {
      behind = let e = ap length seen.front.1 in let l = length-append (view p).front seen.front.0 in omega arith;
      within = let e = ap length seen.seen.1 in let l = length-append seen.updates seen.seen.0 in omega arith;
      replies = subst (λ (l : List Update). replies_for (view p).setup.set l call reply) (sym taken) (named_says (view p).setup.set seen.updates call reply seen.of_keys (machine_says seen.updates call present reply is seen.answer));
      unoffered = λ helped. absurd (unhelped helped);
    };
  })
    where
      taken : take (length seen.updates) (view p).seen_updates ≡ seen.updates
      taken = ap (take (length seen.updates)) seen.seen.1 ∙ take-append-le (length seen.updates) seen.updates seen.seen.0 (omega arith) ∙ take-length seen.updates

-- what is known once it was placed
read_placed : (s : ShapeFacts) (v w : View) (found position : ℕ) (call : Call) (reply : Bool) → MayPlaceIn s v position call reply → StartsWith v.seen_updates v.front → w ≡ placed_view v 0 found position call reply → Read call reply v w
read_placed s v w found position call reply may whole is = record {
  behind = (let m = may.may.behind in let d = whole.1 in (
    take (position - length v.front) whole.0,
    front ∙ ap (take position) d
        ∙ ap (λ k. take k (v.front ++ whole.0)) (let z : position ≡ length v.front + (position - length v.front) = omega arith in z) ∙ take-append-add v.front whole.0 (position - length v.front),
  ));
  replies = subst (λ (l : List Update). replies_for v.setup.set l call reply) (sym front) may.may.replies;
  answered = ap (λ (x : View). x.own.answered) is ∙ ap (λ k. v.own.answered ++ (read_at k call reply ∷ [])) position_is;
}
  where
    front : w.front ≡ take position v.seen_updates
    front = ap (λ (x : View). x.front) is

    position_is : position ≡ length w.front
    position_is = sym (ap length front ∙ length-take-le position v.seen_updates may.may.within)

-- by a caller that had answered no call since p
pub read_seen : (s : ShapeFacts) {S R : Type 0} (p q r : Pass S R) (call : Call) (present reply : Bool) {position : ℕ} → HasSeenKey q (key_of call) present position → ¬ s.helped → IsAnswer call present reply → (view q).setup ≡ (view p).setup → AnswersNone (view p) (view q)
    → (found : ℕ) × (view r ≡ placed_view (view q) 0 found position call reply) → Read call reply (view p) (view r)
read_seen s p q r call present reply {position} seen unhelped is setup none step = read_since (view p) (view q) (view r) call reply setup none
    (read_placed s (view q) (view r) step.0 position call reply (may_answer s q call present reply seen unhelped is) (starts_then (view q).front seen.updates (view q).seen_updates seen.front seen.seen) step.1)
