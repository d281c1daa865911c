-- Each reply `Full` of a run is the answer to an insertion that found no record.
use mathlib.Core.Option.{some, some-injective}
use Rattle.std.proofs.Common.{◌≡◌, ℕ, zero, suc, List, [], ◌∷◌, ◌++◌, length, Bool, true, false, ⊎_elim, refl, sym, ap, ◌∙◌, subst, arith}
use Rattle.std.proofs.lemmas.Grind.{flat_map-append}
use Rattle.std.proofs.lemmas.List.{append_assoc, append-nil}
use Rattle.set_model.specs.declared.calls.Call.{Call}
use Rattle.set_model.specs.declared.calls.Call.TheVariants.{Insert, Remove, Search}
use Rattle.set_model.specs.declared.calls.Reply.{Reply}
use Rattle.set_model.specs.declared.calls.Reply.TheVariants.{Full}
use Rattle.set_model.specs.Machine.{reply_of_answer}
use Rattle.record_memory.specs.declared.books.Book.{Book}
use Rattle.record_memory.specs.declared.books.Guard.{Guard}
use Rattle.record_memory.specs.declared.books.Setup.{Setup}
use Rattle.record_memory.specs.declared.books.View.{View}
use Rattle.record_rule.specs.Facts.{At}
use Rattle.record_rule.proofs.Lists.{below_at, at_append}
use Rattle.workload_text.specs.Limits.{calls_of_all}
use Rattle.set_api.specs.declared.answer.Answer.{Answer}
use Rattle.set_api.specs.declared.answer.Answer.TheVariants as answer
use Rattle.set_api.specs.Turns.{Makes, Repeats, Turn, Turns, Phases, Met, IsReplyOf}
use Rattle.set_runs.specs.Runs.{IsCallersPlay}
use Rattle.run_facts.specs.Replies.{with_replies}
use Rattle.run_facts.specs.Fullness.{Goes, FindsNone, WasFull}
use Rattle.run_facts.proofs.Answers.{with_more, turns_long, phases_add}

-- the call of each reply
call_of_reply : (calls : List Call) (replies : List Reply) (n : ℕ) (r : Reply) → length replies ≡ length calls → At replies n r → (call : Call) × At (with_replies calls replies) n (call, r)
call_of_reply calls [] n r same at = absurd (omega (arith, below_at [] n r at))
call_of_reply [] (x ∷ replies) n r same at = absurd (omega (arith, same))
call_of_reply (call ∷ calls) (x ∷ replies) zero r same at = (call, ap (λ z. some (call, z)) (some-injective x r at))
call_of_reply (call ∷ calls) (x ∷ replies) (suc n) r same at = call_of_reply calls replies n r (omega (arith, same)) at

answer_not_full : (b : Bool) → ¬ (Full ≡ reply_of_answer b)
answer_not_full true e = cc
answer_not_full false e = cc

module _ {steps : Call → ℕ → Answer → Book → Book → Type 0} {budget : ℕ} where
  -- a turn with the reply `Full` is such an insertion's
  finds_none : (call : Call) (u v w : View) (a : Answer) → Repeats steps budget call u v → Makes steps budget call a v w → IsReplyOf a Full → (key : ℕ) × (call ≡ Insert key) × FindsNone steps budget key u w
  finds_none call u v w (answer.Done b) repeats last is = absurd (answer_not_full b is)
  finds_none call u v w (answer.Again hops) repeats last is = elim is [ ]
  finds_none (Insert key) u v w (answer.Full found) repeats last is = (key, refl, record { v = v; found = found; repeats = repeats; last = last })
  finds_none (Remove key) u v w (answer.Full found) repeats last is = elim (last.tells) [ ]
  finds_none (Search key) u v w (answer.Full found) repeats last is = elim (last.tells) [ ]

  goes_then : {xs ys : List (Call × Reply)} {u v w : View} → Goes steps budget xs u v → Goes steps budget ys v w → Goes steps budget (xs ++ ys) u w
  goes_then {xs = xs} {u = u} {v = v} g Goes.none = subst (λ l. Goes steps budget l u v) (sym (append-nil xs)) g
  goes_then {xs = xs} {u = u} {w = w} g (Goes.turn {answers = ys} {call = call} {r = r} before turn) = subst (λ l. Goes steps budget l u w) (append_assoc xs ys ((call, r) ∷ [])) (Goes.turn (goes_then g before) turn)
  goes_then g (Goes.meeting before met) = Goes.meeting (goes_then g before) met

  turns_go : {calls : List Call} {replies : List Reply} {u v : View} → Turns steps budget calls replies u v → Goes steps budget (with_replies calls replies) u v
  turns_go Turns.none = Goes.none
  turns_go (Turns.next {calls = calls} {replies = replies} {u = u} {w = w} {call = call} {r = r} before turn) =
      subst (λ l. Goes steps budget l u w) (sym (with_more calls (call ∷ []) replies (r ∷ []) (turns_long before))) (Goes.turn (turns_go before) turn)

  -- what a caller played phase by phase
  pub phases_go : {phases : List (List Call)} {replies : List Reply} {bounds : List ℕ} {u v : View} → Phases steps budget phases replies bounds u v → Goes steps budget (with_replies (calls_of_all phases) replies) u v
  phases_go Phases.none = Goes.none
  phases_go (Phases.next {phases = phases} {calls = calls} {before = before} {replies = replies} {u = u} {x = x} earlier met turns) =
      let all : calls_of_all (phases ++ calls ∷ []) ≡ calls_of_all phases ++ calls = flat_map-append (λ (l : List Call). l) phases (calls ∷ []) ∙ ap (λ l. calls_of_all phases ++ l) (append-nil calls) in
      let whole = ap (λ l. with_replies l (before ++ replies)) all ∙ with_more (calls_of_all phases) calls before replies (phases_add earlier).0 in
      subst (λ l. Goes steps budget l u x) (sym whole) (goes_then (Goes.meeting (phases_go earlier) met) (turns_go turns))

  -- what is played behind a call that found no record leaves that it did
  full_turn : {xs : List (Call × Reply)} {n : ℕ} {call : Call} {r : Reply} {u v w : View} → WasFull steps budget xs n u v → Turn steps budget call r v w → WasFull steps budget (xs ++ (call, r) ∷ []) n u w
  full_turn {call = call} {r = r} f turn = record {
    key = f.key;
    earlier = f.earlier;
    later = f.later ++ (call, r) ∷ [];
    answers_are = ap (λ l. l ++ (call, r) ∷ []) f.answers_are ∙ append_assoc f.earlier ((Insert f.key, Full) ∷ f.later) ((call, r) ∷ []);
    place = f.place;
    before = f.before;
    behind = f.behind;
    goes_to = f.goes_to;
    finds_none = f.finds_none;
    goes_on = Goes.turn f.goes_on turn;
  }

  full_meeting : {xs : List (Call × Reply)} {n bound : ℕ} {u v w : View} → WasFull steps budget xs n u v → Met bound v w → WasFull steps budget xs n u w
  full_meeting f met = record {
    key = f.key;
    earlier = f.earlier;
    later = f.later;
    answers_are = f.answers_are;
    place = f.place;
    before = f.before;
    behind = f.behind;
    goes_to = f.goes_to;
    finds_none = f.finds_none;
    goes_on = Goes.meeting f.goes_on met;
  }

  full_last : (xs : List (Call × Reply)) (call : Call) (r : Reply) (u v w : View) → Goes steps budget xs u v → Turn steps budget call r v w → r ≡ Full → WasFull steps budget (xs ++ (call, r) ∷ []) (length xs) u w
  full_last xs call r u v w before turn full =
      let f = finds_none call v turn.v w turn.answer turn.repeats turn.last (subst (IsReplyOf turn.answer) full turn.reply_is) in
      record {
        key = f.0;
        earlier = xs;
        later = [];
        answers_are = ap (λ (c : Call). xs ++ (c, r) ∷ []) f.1 ∙ ap (λ (x : Reply). xs ++ (Insert f.0, x) ∷ []) full;
        place = refl;
        before = v;
        behind = w;
        goes_to = before;
        finds_none = f.2;
        goes_on = Goes.none;
      }

  goes_full : {xs : List (Call × Reply)} {u w : View} → Goes steps budget xs u w → (n : ℕ) (call : Call) → At xs n (call, Full) → WasFull steps budget xs n u w
  goes_full Goes.none n call at = absurd (omega (arith, below_at [] n (call, Full) at))
  goes_full {u = u} {w = w} (Goes.turn {answers = xs} {v = v} {call = here} {r = r} before turn) n call at =
      ⊎_elim
      (λ e. full_turn (goes_full before n call e) turn)
      (λ e. let q : e.0 ≡ 0 = omega (arith, below_at ((here, r) ∷ []) e.0 (call, Full) e.2) in
      let is : (here, r) ≡ (call, Full) = some-injective (here, r) (call, Full) (subst (λ i. At ((here, r) ∷ []) i (call, Full)) q e.2) in
      subst (λ i. WasFull steps budget (xs ++ (here, r) ∷ []) i u w) (omega (arith, e.1, q)) (full_last xs here r u v w before turn (ap (λ (x : Call × Reply). x.1) is)))
      (at_append xs ((here, r) ∷ []) n (call, Full) at)
  goes_full (Goes.meeting before met) n call at = full_meeting (goes_full before n call at) met

  -- so the place of each reply `Full` of a caller is that of an insertion that found no record
  pub some_full : {setup : Setup} {first : Guard} {number : ℕ} {phases : List (List Call)} {replies : List Reply} {bounds : List ℕ} {book : Book} → (p : IsCallersPlay steps budget setup first number phases replies bounds book)
      → (n : ℕ) → At replies n Full → WasFull steps budget (with_replies (calls_of_all phases) replies) n p.start p.left
  some_full {phases = phases} {replies = replies} p n at =
      let c = call_of_reply (calls_of_all phases) replies n Full (phases_add p.played).0 at in
      goes_full (phases_go p.played) n c.0 c.1
