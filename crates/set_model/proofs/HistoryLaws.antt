-- Histories that grow at their end, and the laws of all legal histories.
use Rattle.std.proofs.Common.{◌≡◌, ℕ, ◌+◌, ◌≤◌, Bool, true, false, cond, not, eqb, List, [], ◌∷◌, ◌++◌, ◌&&◌, ◌||◌, length, map, length-append, refl, sym, ap, ◌∙◌, subst, arith}
use Rattle.std.specs.Prelude.{◌↔◌, MatchBool}
use Rattle.std.specs.Cmp.{nat_eq_equiv}
use Rattle.std.proofs.lemmas.Bool.{eq-eqb, eqb-true, MatchBool-at_true, not-true}
use Rattle.std.proofs.lemmas.List.{take-append-le}
use Rattle.std.proofs.lemmas.List.Sums.{sum_by-cons}
use Rattle.set_model.specs.declared.calls.Call.{Call}
use Rattle.set_model.specs.declared.calls.Call.TheVariants.{Insert, Remove}
use Rattle.set_model.specs.declared.calls.Reply.{Reply}
use Rattle.set_model.specs.declared.calls.Update.{Update}
use Rattle.set_model.specs.Keys.{Keys, empty, contains, size_of, sum_of}
use Rattle.set_model.specs.Machine.{answer_of, keys_after, reply_of, keys_after_all}
use Rattle.set_model.specs.Histories.{call_of, keys_of, IsLegalFrom, IsLegalHistory, reply_at, IsLegalRead, TakeTurns, last_added, additions_in, removals_in, sum_added, sum_removed, IsBalanced}
use Rattle.set_model.proofs.KeySets.{contains-empty, contains-insert, contains-remove, size_of-empty, size_of-insert, size_of-present, sum_of-empty, sum_of-insert, sum_of-present}

-- the keys that updates leave, from these keys on
abbrev keys_from : List Update → Keys → Keys
keys_from updates keys = keys_after_all (map call_of updates) keys

keys_from-append : (updates later : List Update) (keys : Keys) → keys_from (updates ++ later) keys ≡ keys_from later (keys_from updates keys)
keys_from-append [] later keys = refl
keys_from-append (update ∷ updates) later keys = keys_from-append updates later (keys_after (call_of update) keys)

pub keys_of-push : (updates : List Update) (update : Update) → keys_of (updates ++ update ∷ []) ≡ keys_after (call_of update) (keys_of updates)
keys_of-push updates update = keys_from-append updates (update ∷ []) empty

IsLegalFrom-append : (updates later : List Update) (keys : Keys) → IsLegalFrom (updates ++ later) keys ↔ (IsLegalFrom updates keys × IsLegalFrom later (keys_from updates keys))
IsLegalFrom-append [] later keys = (λ legal. (tt, legal), λ parts. parts.1)
IsLegalFrom-append (update ∷ updates) later keys =
    let rest = IsLegalFrom-append updates later (keys_after (call_of update) keys) in
    (λ legal. let parts = rest.0 legal.1 in ((legal.0, parts.0), parts.1), λ parts. (parts.0.0, rest.1 (parts.0.1, parts.1)))

-- an update that is answered yes goes on a legal history
pub IsLegalHistory-push : (updates : List Update) (update : Update) → IsLegalHistory updates → answer_of (call_of update) (keys_of updates) ≡ true → IsLegalHistory (updates ++ update ∷ [])
IsLegalHistory-push updates update legal taken = (IsLegalFrom-append updates (update ∷ []) empty).1 (legal, (taken, tt))

-- a beginning of a legal history is one
pub IsLegalHistory-front : (updates later : List Update) → IsLegalHistory (updates ++ later) → IsLegalHistory updates
IsLegalHistory-front updates later legal = ((IsLegalFrom-append updates later empty).0 legal).0

-- what comes later changes no reply
pub reply_at-append : (updates later : List Update) (place : ℕ) (call : Call) → place ≤ length updates → reply_at (updates ++ later) place call ≡ reply_at updates place call
reply_at-append updates later place call within = ap (λ front. reply_of call (keys_of front)) (take-append-le place updates later within)

pub IsLegalRead-append : (updates later : List Update) (place : ℕ) (call : Call) (reply : Reply) → IsLegalRead updates place call reply → IsLegalRead (updates ++ later) place call reply
IsLegalRead-append updates later place call reply legal = record {
  within = omega (arith, length-append updates later, legal.within);
  read = legal.read;
  answered = legal.answered ∙ sym (reply_at-append updates later place call legal.within);
}

contains_then : (added : Bool) (k key : ℕ) (keys : Keys) → contains (keys_after (cond added (Insert k) (Remove k)) keys) key ≡ cond (eqb k key) added (contains keys key)
contains_then true k key keys = contains-insert keys k key ∙ rw (nat_eq_equiv.symm key k) (elim (eqb k key) as (λ b. (b || contains keys key) ≡ cond b true (contains keys key)) [ true ↦ refl | false ↦ refl ])
contains_then false k key keys = contains-remove keys k key ∙ rw (nat_eq_equiv.symm key k) (elim (eqb k key) as (λ b. (not b && contains keys key) ≡ cond b false (contains keys key)) [ true ↦ refl | false ↦ refl ])

-- after an update its key is there where it was added, and each other one where it was
contains-update : (update : Update) (keys : Keys) (key : ℕ) → contains (keys_after (call_of update) keys) key ≡ cond (eqb update.key key) update.added (contains keys key)
contains-update update keys key = contains_then update.added update.key key keys

flips : (b c : Bool) → b ≡ not c → not b ≡ c
flips b true is = ap not is
flips b false is = ap not is

answer_then : (added : Bool) (k : ℕ) (keys : Keys) → (answer_of (cond added (Insert k) (Remove k)) keys ≡ true) ↔ (added ≡ not (contains keys k))
answer_then true k keys = (λ taken. sym taken, λ is. sym is)
answer_then false k keys = (λ taken. sym (ap not taken), λ is. sym (flips false (contains keys k) is))

contains-keys_from : (updates : List Update) (keys : Keys) (key : ℕ) → contains (keys_from updates keys) key ≡ last_added key (contains keys key) updates
contains-keys_from [] keys key = refl
contains-keys_from (update ∷ updates) keys key =
    contains-keys_from updates (keys_after (call_of update) keys) key ∙ ap (λ b. last_added key b updates) (contains-update update keys key)

-- a key is there where the last of its updates added it
pub contains-keys_of : (updates : List Update) (key : ℕ) → contains (keys_of updates) key ≡ last_added key false updates
contains-keys_of updates key = contains-keys_from updates empty key ∙ ap (λ b. last_added key b updates) (contains-empty key)

turns_from_legal : (updates : List Update) (keys : Keys) → IsLegalFrom updates keys → (key : ℕ) → TakeTurns key (contains keys key) updates
turns_from_legal [] keys legal key = tt
turns_from_legal (update ∷ updates) keys legal key =
    let later = turns_from_legal updates (keys_after (call_of update) keys) legal.1 key in
    let then = contains-update update keys key in
    elim (eqb update.key key) as (λ b. eqb update.key key ≡ b → MatchBool b ((update.added ≡ not (contains keys key)) × TakeTurns key update.added updates) (TakeTurns key (contains keys key) updates)) [
      | true ↦ λ same. (
        (answer_then update.added update.key keys).0 legal.0 ∙ ap (λ k. not (contains keys k)) (eqb-true update.key key same),
        subst (λ b. TakeTurns key b updates) (then ∙ ap (λ b. cond b update.added (contains keys key)) same) later,
      )
      | false ↦ λ other. subst (λ b. TakeTurns key b updates) (then ∙ ap (λ b. cond b update.added (contains keys key)) other) later
    ] refl

legal_from_turns : (updates : List Update) (keys : Keys) → ((key : ℕ) → TakeTurns key (contains keys key) updates) → IsLegalFrom updates keys
legal_from_turns [] keys turns = tt
legal_from_turns (update ∷ updates) keys turns = (
  (answer_then update.added update.key keys).1 (MatchBool-at_true _ _ (eq-eqb update.key update.key refl) (turns update.key)).0,
  legal_from_turns updates (keys_after (call_of update) keys) (λ key.
      elim (eqb update.key key) as (λ b. eqb update.key key ≡ b → MatchBool b ((update.added ≡ not (contains keys key)) × TakeTurns key update.added updates) (TakeTurns key (contains keys key) updates) → TakeTurns key (contains (keys_after (call_of update) keys) key) updates) [
        | true ↦ λ same turn. subst (λ b. TakeTurns key b updates) (sym (contains-update update keys key ∙ ap (λ b. cond b update.added (contains keys key)) same)) turn.1
        | false ↦ λ other turn. subst (λ b. TakeTurns key b updates) (sym (contains-update update keys key ∙ ap (λ b. cond b update.added (contains keys key)) other)) turn
      ] refl (turns key)),
)

-- a history is legal exactly where the updates of each key take turns, an addition first
pub legal_takes_turns : (updates : List Update) → IsLegalHistory updates ↔ ((key : ℕ) → TakeTurns key false updates)
legal_takes_turns updates = (
  λ legal key. subst (λ b. TakeTurns key b updates) (contains-empty key) (turns_from_legal updates empty legal key),
  λ turns. legal_from_turns updates empty (λ key. subst (λ b. TakeTurns key b updates) (sym (contains-empty key)) (turns key)),
)

-- what an update does to the number of keys, where it is answered yes
size_then : (added : Bool) (k : ℕ) (keys : Keys) → answer_of (cond added (Insert k) (Remove k)) keys ≡ true → size_of (keys_after (cond added (Insert k) (Remove k)) keys) + cond (not added) 1 0 ≡ size_of keys + cond added 1 0
size_then true k keys taken = omega (arith, size_of-insert keys k ∙ ap (λ b. cond b (size_of keys) (size_of keys + 1)) (not-true _ taken))
size_then false k keys taken = omega (arith, size_of-present keys k taken)

sum_then : (added : Bool) (k : ℕ) (keys : Keys) → answer_of (cond added (Insert k) (Remove k)) keys ≡ true → sum_of (keys_after (cond added (Insert k) (Remove k)) keys) + cond added 0 k ≡ sum_of keys + cond added k 0
sum_then true k keys taken = omega (arith, sum_of-insert keys k ∙ ap (λ b. cond b (sum_of keys) (sum_of keys + k)) (not-true _ taken))
sum_then false k keys taken = omega (arith, sum_of-present keys k taken)

size_balance : (updates : List Update) (keys : Keys) → IsLegalFrom updates keys → size_of (keys_from updates keys) + removals_in updates ≡ size_of keys + additions_in updates
size_balance [] keys legal = refl
size_balance (update ∷ updates) keys legal = omega (
  arith,
  size_balance updates (keys_after (call_of update) keys) legal.1,
  size_then update.added update.key keys legal.0,
  sum_by-cons (λ u. cond (not u.added) 1 0) update updates,
  sum_by-cons (λ u. cond u.added 1 0) update updates,
)

sum_balance : (updates : List Update) (keys : Keys) → IsLegalFrom updates keys → sum_of (keys_from updates keys) + sum_removed updates ≡ sum_of keys + sum_added updates
sum_balance [] keys legal = refl
sum_balance (update ∷ updates) keys legal = omega (
  arith,
  sum_balance updates (keys_after (call_of update) keys) legal.1,
  sum_then update.added update.key keys legal.0,
  sum_by-cons (λ u. cond u.added 0 u.key) update updates,
  sum_by-cons (λ u. cond u.added u.key 0) update updates,
)

-- in a legal history what was added and not taken away is there
pub legal_is_balanced : (updates : List Update) → IsLegalHistory updates → IsBalanced updates
legal_is_balanced updates legal = record {
  size = omega (arith, size_balance updates empty legal, size_of-empty);
  sum = omega (arith, sum_balance updates empty legal, sum_of-empty);
}
