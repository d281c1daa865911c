-- After a run on a set whose calls leave no record in their caller's hand, no caller has one there.
use Rattle.std.proofs.Common.{◌≡◌, ◌<◌, ℕ, zero, suc, List, replicate, refl, sym, ap, ◌∙◌, subst, arith, None}
use Rattle.std.specs.List.{count_by}
use Rattle.set_model.specs.declared.calls.Call.{Call}
use Rattle.set_model.specs.declared.calls.Counts.{Counts}
use Rattle.set_model.specs.declared.calls.Reply.{Reply}
use Rattle.record_memory.specs.declared.books.Book.{Book}
use Rattle.record_memory.specs.declared.books.Setup.{Setup}
use Rattle.record_memory.specs.declared.books.View.{View}
use Rattle.record_rule.specs.Facts.{At, ShapeFacts, CoverFacts}
use Rattle.record_rule.proofs.CountingPlaces.{count_cons}
use Rattle.record_rule.proofs.Lists.{at_below, below_at}
use Rattle.record_table.specs.Closing.{closed_books}
use Rattle.record_table.specs.declared.closing.Closed.{Closed}
use Rattle.reclaim_api.specs.Frames.{is_as}
use Rattle.record_pieces.specs.Hands.{is_in_hand, in_hand}
use Rattle.set_api.specs.declared.answer.Answer.{Answer}
use Rattle.set_api.specs.declared.answer.Answer.TheVariants as answer
use Rattle.set_api.specs.Hands.{LeavesNoneInHand}
use Rattle.set_api.specs.Turns.{Repeats, Turn, Turns, Phases}
use Rattle.set_runs.specs.Runs.{IsSetRun}
use Rattle.run_facts.proofs.AloneRuns.{at_got}

module _ {steps : Call → ℕ → Answer → Book → Book → Type 0} {budget : ℕ} (none : LeavesNoneInHand steps) where
  repeats_leave : {call : Call} {u v : View} → Repeats steps budget call u v → in_hand v.own ≡ in_hand u.own
  repeats_leave Repeats.none = refl
  repeats_leave {call} (Repeats.again {v = v} {w = w} hops before made) = none.same call budget (answer.Again hops) v.own w.own made.steps_are ∙ repeats_leave before

  turn_leaves : {call : Call} {r : Reply} {u w : View} → Turn steps budget call r u w → in_hand w.own ≡ in_hand u.own
  turn_leaves {call} {r} {u} {w} turn = none.same call budget turn.answer turn.v.own w.own turn.last.steps_are ∙ repeats_leave turn.repeats

  turns_leave : {calls : List Call} {replies : List Reply} {u v : View} → Turns steps budget calls replies u v → in_hand v.own ≡ in_hand u.own
  turns_leave Turns.none = refl
  turns_leave (Turns.next before turn) = turn_leaves turn ∙ turns_leave before

  -- all calls of a caller leave as many in hand as there were
  pub phases_leave : {phases : List (List Call)} {replies : List Reply} {bounds : List ℕ} {u v : View} → Phases steps budget phases replies bounds u v → in_hand v.own ≡ in_hand u.own
  phases_leave Phases.none = refl
  phases_leave (Phases.next before met turns) = turns_leave turns ∙ ap (λ (x : View). in_hand x.own) met.rest ∙ phases_leave before

-- a caller that made no step has none
none_at_first : (n : ℕ) → count_by (is_as is_in_hand) (replicate n None) ≡ 0
none_at_first zero = refl
none_at_first (suc n) = omega (arith, count_cons (is_as is_in_hand) None (replicate n None), none_at_first n)

-- so none has one in the closed table
pub run_hands_free : {s : ShapeFacts} {c : CoverFacts} {steps : Setup → Call → ℕ → Answer → Book → Book → Type 0} {budget : ℕ} {setup : Setup} {lists : List (List (List Call))} {replies : List (List Reply)} {counts : Counts} {closed : Closed}
    → IsSetRun s c steps budget setup lists replies counts closed → LeavesNoneInHand (steps setup) → (i : ℕ) (b : Book) → At (closed_books closed) i b → in_hand b ≡ 0
run_hands_free {setup = setup} {replies = replies} {closed = closed} run none i b at =
    let own = at_below replies i (subst (λ n. i < n) (run.all_books ∙ sym run.all_replies) (below_at (closed_books closed) i b at)) in
    let p = run.each i own.0 b (at_got replies i own.0 own.1) (at_got (closed_books closed) i b at) in
    ap in_hand (sym p.book_is) ∙ phases_leave none p.played ∙ ap in_hand p.fresh.own ∙ none_at_first setup.records
