-- What a caller played stands in its book: each reply but `Full` is an answered call, in order.
use Rattle.std.proofs.Common.{◌≡◌, ℕ, ◌+◌, List, [], ◌∷◌, ◌++◌, length, length-append, true, false, refl, sym, ap, ◌∙◌, arith}
use Rattle.std.proofs.lemmas.List.{append_assoc, append-nil, map-append}
use Rattle.std.proofs.lemmas.Grind.{flat_map-append}
use Rattle.set_model.specs.declared.calls.Call.{Call}
use Rattle.set_model.specs.declared.calls.Call.TheVariants.{Insert, Remove, Search}
use Rattle.set_model.specs.declared.calls.Reply.{Reply}
use Rattle.set_model.specs.declared.calls.Reply.TheVariants.{Yes, No, Full}
use Rattle.set_model.specs.Machine.{reply_of_answer}
use Rattle.record_memory.specs.declared.books.Answered.{Answered}
use Rattle.record_memory.specs.declared.books.Book.{Book}
use Rattle.record_memory.specs.declared.books.Guard.{Guard}
use Rattle.record_memory.specs.declared.books.Setup.{Setup}
use Rattle.record_memory.specs.declared.books.View.{View}
use Rattle.workload_text.specs.Limits.{calls_of_all}
use Rattle.set_api.specs.declared.answer.Answer.{Answer}
use Rattle.set_api.specs.declared.answer.Answer.TheVariants as answer
use Rattle.set_api.specs.Answers.{Tells}
use Rattle.set_api.specs.Turns.{Repeats, Turn, Turns, Phases, IsReplyOf}
use Rattle.key_sums.specs.Balances.{answered_among, answers_in}
use Rattle.set_runs.specs.Runs.{IsCallersPlay}
use Rattle.run_facts.specs.Replies.{with_replies, AreBooksReplies}

-- what a call adds to the answered ones
abbrev told : Call → Reply → List (Call × Reply)
told call r = answered_among ((call, r) ∷ [])

-- some more calls, answered
pub with_more : (calls more : List Call) (replies others : List Reply) → length replies ≡ length calls → with_replies (calls ++ more) (replies ++ others) ≡ with_replies calls replies ++ with_replies more others
with_more [] more [] others e = refl
with_more [] more (r ∷ replies) others e = absurd (omega (arith, e))
with_more (call ∷ calls) more [] others e = absurd (omega (arith, e))
with_more (call ∷ calls) more (r ∷ replies) others e = ap (λ l. (call, r) ∷ l) (with_more calls more replies others (omega (arith, e)))

pub among_more : (xs ys : List (Call × Reply)) → answered_among (xs ++ ys) ≡ answered_among xs ++ answered_among ys
among_more [] ys = refl
among_more ((call, Full) ∷ xs) ys = among_more xs ys
among_more ((call, Yes) ∷ xs) ys = ap (λ l. (call, Yes) ∷ l) (among_more xs ys)
among_more ((call, No) ∷ xs) ys = ap (λ l. (call, No) ∷ l) (among_more xs ys)

answers_more : (xs ys : List Answered) → answers_in (xs ++ ys) ≡ answers_in xs ++ answers_in ys
answers_more xs ys = map-append (λ (a : Answered). (a.call, reply_of_answer a.reply)) xs ys

-- an answer adds the call with its reply
tells_adds : (call : Call) (a : Answer) (r : Reply) (v w : View) → Tells call a v w → IsReplyOf a r → answers_in w.own.answered ≡ answers_in v.own.answered ++ told call r
tells_adds (Insert key) (answer.Done true) r v w t is = ap answers_in t.answered ∙ answers_more v.own.answered _ ∙ ap (λ (z : Reply). answers_in v.own.answered ++ told (Insert key) z) (sym is)
tells_adds (Insert key) (answer.Done false) r v w t is = ap answers_in t.answered ∙ answers_more v.own.answered _ ∙ ap (λ (z : Reply). answers_in v.own.answered ++ told (Insert key) z) (sym is)
tells_adds (Insert key) (answer.Full found) r v w t is = ap answers_in t.answered ∙ sym (append-nil (answers_in v.own.answered)) ∙ ap (λ (z : Reply). answers_in v.own.answered ++ told (Insert key) z) (sym is)
tells_adds (Insert key) (answer.Again hops) r v w t is = elim is [ ]
tells_adds (Remove key) (answer.Full found) r v w t is = elim t [ ]
tells_adds (Remove key) (answer.Again hops) r v w t is = elim is [ ]
tells_adds (Search key) (answer.Full found) r v w t is = elim t [ ]
tells_adds (Search key) (answer.Again hops) r v w t is = elim is [ ]
tells_adds (Remove key) (answer.Done true) r v w t is = ap answers_in t.answered ∙ answers_more v.own.answered _ ∙ ap (λ (z : Reply). answers_in v.own.answered ++ told (Remove key) z) (sym is)
tells_adds (Remove key) (answer.Done false) r v w t is = ap answers_in t.answered ∙ answers_more v.own.answered _ ∙ ap (λ (z : Reply). answers_in v.own.answered ++ told (Remove key) z) (sym is)
tells_adds (Search key) (answer.Done true) r v w t is = ap answers_in t.answered ∙ answers_more v.own.answered _ ∙ ap (λ (z : Reply). answers_in v.own.answered ++ told (Search key) z) (sym is)
tells_adds (Search key) (answer.Done false) r v w t is = ap answers_in t.answered ∙ answers_more v.own.answered _ ∙ ap (λ (z : Reply). answers_in v.own.answered ++ told (Search key) z) (sym is)

-- a call that may be made again answers none
again_none : (call : Call) (hops : ℕ) (v w : View) → Tells call (answer.Again hops) v w → w.own.answered ≡ v.own.answered
again_none (Insert key) hops v w t = t.answered
again_none (Remove key) hops v w t = t.answered
again_none (Search key) hops v w t = t.answered

module _ {steps : Call → ℕ → Answer → Book → Book → Type 0} {budget : ℕ} where
  repeats_none : {call : Call} {u v : View} → Repeats steps budget call u v → v.own.answered ≡ u.own.answered
  repeats_none Repeats.none = refl
  repeats_none {call} (Repeats.again {v = v} {w = w} hops before made) = again_none call hops v w made.tells ∙ repeats_none before

  turn_adds : {call : Call} {r : Reply} {u w : View} → Turn steps budget call r u w → answers_in w.own.answered ≡ answers_in u.own.answered ++ told call r
  turn_adds {call} {r} {u} {w} t = tells_adds call t.answer r t.v w t.last.tells t.reply_is ∙ ap (λ l. answers_in l ++ told call r) (repeats_none t.repeats)

  pub turns_long : {calls : List Call} {replies : List Reply} {u v : View} → Turns steps budget calls replies u v → length replies ≡ length calls
  turns_long Turns.none = refl
  turns_long (Turns.next {calls = calls} {replies = replies} {call = call} {r = r} before turn) = length-append replies (r ∷ []) ∙ ap (λ n. n + 1) (turns_long before) ∙ sym (length-append calls (call ∷ []))

  turns_add : {calls : List Call} {replies : List Reply} {u v : View} → Turns steps budget calls replies u v → answers_in v.own.answered ≡ answers_in u.own.answered ++ answered_among (with_replies calls replies)
  turns_add {u = u} Turns.none = sym (append-nil (answers_in u.own.answered))
  turns_add (Turns.next {calls = calls} {replies = replies} {u = u} {call = call} {r = r} before turn) =
      turn_adds turn ∙ ap (λ l. l ++ told call r) (turns_add before) ∙ append_assoc (answers_in u.own.answered) (answered_among (with_replies calls replies)) (told call r)
      ∙ ap (λ l. answers_in u.own.answered ++ l) (sym (ap answered_among (with_more calls (call ∷ []) replies (r ∷ []) (turns_long before)) ∙ among_more (with_replies calls replies) ((call, r) ∷ [])))

  -- all calls of a caller, phase after phase
  pub phases_add : {phases : List (List Call)} {replies : List Reply} {bounds : List ℕ} {u v : View} → Phases steps budget phases replies bounds u v → length replies ≡ length (calls_of_all phases)
      × (answers_in v.own.answered ≡ answers_in u.own.answered ++ answered_among (with_replies (calls_of_all phases) replies))
  phases_add {u = u} Phases.none = (refl, sym (append-nil (answers_in u.own.answered)))
  phases_add (Phases.next {phases = phases} {calls = calls} {before = before} {replies = replies} {u = u} {v = v} {w = w} earlier met turns) =
      let first = phases_add earlier in
      let all : calls_of_all (phases ++ calls ∷ []) ≡ calls_of_all phases ++ calls = flat_map-append (λ (l : List Call). l) phases (calls ∷ []) ∙ ap (λ l. calls_of_all phases ++ l) (append-nil calls) in (
        length-append before replies ∙ ap (λ n. n + length replies) first.0 ∙ ap (λ n. length (calls_of_all phases) + n) (turns_long turns) ∙ sym (ap length all ∙ length-append (calls_of_all phases) calls),
        turns_add turns ∙ ap (λ l. l ++ answered_among (with_replies calls replies)) (ap (λ (x : View). answers_in x.own.answered) met.rest ∙ first.1)
            ∙ append_assoc (answers_in u.own.answered) (answered_among (with_replies (calls_of_all phases) before)) (answered_among (with_replies calls replies))
            ∙ ap (λ l. answers_in u.own.answered ++ l) (sym (ap (λ l. answered_among (with_replies l (before ++ replies))) all
            ∙ ap answered_among (with_more (calls_of_all phases) calls before replies first.0) ∙ among_more (with_replies (calls_of_all phases) before) (with_replies calls replies))),
      )

  -- so the book that a closed table has of a caller has its replies
  pub book_has_replies : {setup : Setup} {first : Guard} {number : ℕ} {phases : List (List Call)} {replies : List Reply} {bounds : List ℕ} {book : Book} → IsCallersPlay steps budget setup first number phases replies bounds book → AreBooksReplies phases replies book
  book_has_replies p = ap (λ (b : Book). answers_in b.answered) (sym p.book_is) ∙ (phases_add p.played).1 ∙ ap (λ (b : Book). answers_in b.answered ++ _) p.fresh.own
