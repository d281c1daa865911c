-- Runs of the set machine: runs one after another, and bounds on the keys that a run leaves.
use Rattle.std.proofs.Common.{◌≡◌, ℕ, suc, ◌+◌, ◌*◌, ◌≤◌, Bool, true, false, cond, List, [], ◌∷◌, ◌++◌, length, refl, sym, ap, ◌∙◌, inl, inr, arith}
use Rattle.std.specs.List.{All, AllByRecursion}
use Rattle.std.proofs.lemmas.Bool.{cases_Bool, not-false}
use Rattle.std.proofs.lemmas.List.Sums.{sum_by-cons, count_by-le-length}
use Rattle.std.proofs.lemmas.List.Elements.{recursion_from_All}
use Rattle.set_model.specs.declared.calls.Call.{Call}
use Rattle.set_model.specs.declared.calls.Call.TheVariants.{Insert, Remove, Search}
use Rattle.set_model.specs.declared.calls.Reply.{Reply}
use Rattle.set_model.specs.declared.calls.Reply.TheVariants.{Yes, No, Full}
use Rattle.set_model.specs.Keys.{Keys, empty, contains, size_of, sum_of}
use Rattle.set_model.specs.Machine.{key_of, is_insertion, insertions_in, answer_of, keys_after, reply_of_answer, reply_of, replies_of, keys_after_all, IsLegalReply, keys_after_reply, IsLegalRun}
use Rattle.set_model.proofs.KeySets.{insert_present, remove_absent, size_of-empty, size_of-insert, size_of-present, sum_of-empty, sum_of-insert, sum_of-remove-le}

pub keys_after_all-append : (calls later : List Call) (keys : Keys) → keys_after_all (calls ++ later) keys ≡ keys_after_all later (keys_after_all calls keys)
keys_after_all-append [] later keys = refl
keys_after_all-append (call ∷ calls) later keys = keys_after_all-append calls later (keys_after call keys)

pub replies_of-append : (calls later : List Call) (keys : Keys) → replies_of (calls ++ later) keys ≡ replies_of calls keys ++ replies_of later (keys_after_all calls keys)
replies_of-append [] later keys = refl
replies_of-append (call ∷ calls) later keys = ap (λ replies. reply_of call keys ∷ replies) (replies_of-append calls later (keys_after call keys))

pub length-replies_of : (calls : List Call) (keys : Keys) → length (replies_of calls keys) ≡ length calls
length-replies_of [] keys = refl
length-replies_of (call ∷ calls) keys = ap suc (length-replies_of calls (keys_after call keys))

-- a call that is answered no leaves the keys as they are
pub keys_after-answered_no : (call : Call) (keys : Keys) → answer_of call keys ≡ false → keys_after call keys ≡ keys
keys_after-answered_no (Insert key) keys denied = insert_present keys key (not-false _ denied)
keys_after-answered_no (Remove key) keys denied = remove_absent keys key denied
keys_after-answered_no (Search key) keys denied = refl

one_at_most : (b : Bool) → cond b 1 0 ≤ 1
one_at_most true = omega arith
one_at_most false = omega arith

pub size_of-keys_after-le : (call : Call) (keys : Keys) → size_of (keys_after call keys) ≤ size_of keys + cond (is_insertion call) 1 0
size_of-keys_after-le (Insert key) keys = elim (cases_Bool (contains keys key)) [
  | inl there ↦ omega (arith, ap size_of (insert_present keys key there))
  | inr none ↦ omega (arith, size_of-insert keys key ∙ ap (λ b. cond b (size_of keys) (size_of keys + 1)) none)
]
size_of-keys_after-le (Remove key) keys = elim (cases_Bool (contains keys key)) [
  | inl there ↦ omega (arith, size_of-present keys key there)
  | inr none ↦ omega (arith, ap size_of (remove_absent keys key none))
]
size_of-keys_after-le (Search key) keys = omega arith

pub size_of-keys_after_reply-le : (call : Call) (reply : Reply) (keys : Keys) → size_of (keys_after_reply call reply keys) ≤ size_of keys + 1
size_of-keys_after_reply-le call Full keys = omega arith
size_of-keys_after_reply-le call Yes keys = omega (arith, size_of-keys_after-le call keys, one_at_most (is_insertion call))
size_of-keys_after_reply-le call No keys = omega (arith, size_of-keys_after-le call keys, one_at_most (is_insertion call))

-- a run leaves at most as many keys more as it has insertions
pub size_of-keys_after_all-le : (calls : List Call) (keys : Keys) → size_of (keys_after_all calls keys) ≤ size_of keys + insertions_in calls
size_of-keys_after_all-le [] keys = omega arith
size_of-keys_after_all-le (call ∷ calls) keys =
    omega (arith, size_of-keys_after_all-le calls (keys_after call keys), size_of-keys_after-le call keys, sum_by-cons (λ c. cond (is_insertion c) 1 0) call calls)

pub insertions_in-le-length : (calls : List Call) → insertions_in calls ≤ length calls
insertions_in-le-length calls = count_by-le-length is_insertion calls

pub sum_of-keys_after-le : (call : Call) (keys : Keys) → sum_of (keys_after call keys) ≤ sum_of keys + key_of call
sum_of-keys_after-le (Insert key) keys = elim (cases_Bool (contains keys key)) [
  | inl there ↦ omega (arith, ap sum_of (insert_present keys key there))
  | inr none ↦ omega (arith, sum_of-insert keys key ∙ ap (λ b. cond b (sum_of keys) (sum_of keys + key)) none)
]
sum_of-keys_after-le (Remove key) keys = omega (arith, sum_of-remove-le keys key)
sum_of-keys_after-le (Search key) keys = omega arith

-- a run of calls whose keys are at most m adds at most m for each
pub sum_of-keys_after_all-le : (m : ℕ) (calls : List Call) (keys : Keys) → AllByRecursion (λ call. key_of call ≤ m) calls → sum_of (keys_after_all calls keys) ≤ sum_of keys + length calls * m
sum_of-keys_after_all-le m [] keys all = omega arith
sum_of-keys_after_all-le m (call ∷ calls) keys all =
    let one : key_of call ≤ m = all.0 in
    omega (arith, sum_of-keys_after_all-le m calls (keys_after call keys) all.1, sum_of-keys_after-le call keys)

-- the same from the empty set
pub sum_of_run-le : (m : ℕ) (calls : List Call) → All (λ call. key_of call ≤ m) calls → sum_of (keys_after_all calls empty) ≤ length calls * m
sum_of_run-le m calls all = omega (arith, sum_of-keys_after_all-le m calls empty (recursion_from_All (λ call. key_of call ≤ m) calls all), sum_of-empty)

pub size_of_run-le : (calls : List Call) → size_of (keys_after_all calls empty) ≤ insertions_in calls
size_of_run-le calls = omega (arith, size_of-keys_after_all-le calls empty, size_of-empty)

legal_answer : (call : Call) (keys : Keys) (answer : Bool) → answer_of call keys ≡ answer → IsLegalReply call (reply_of_answer answer) keys
legal_answer call keys true is = sym (ap reply_of_answer is)
legal_answer call keys false is = sym (ap reply_of_answer is)

keys_after_answer : (call : Call) (keys : Keys) (answer : Bool) → keys_after_reply call (reply_of_answer answer) keys ≡ keys_after call keys
keys_after_answer call keys true = refl
keys_after_answer call keys false = refl

-- the machine's own replies are legal
pub IsLegalRun-replies_of : (calls : List Call) (keys : Keys) → IsLegalRun calls (replies_of calls keys) keys
IsLegalRun-replies_of [] keys = tt
IsLegalRun-replies_of (call ∷ calls) keys =
    (legal_answer call keys (answer_of call keys) refl, rw (keys_after_answer call keys (answer_of call keys)) (IsLegalRun-replies_of calls (keys_after call keys)))

-- nothing is asked of a run that is used up
pub IsLegalRun-ended : (calls : List Call) (replies : List Reply) (keys : Keys) → length replies ≡ length calls → length calls ≡ 0 → IsLegalRun calls replies keys
IsLegalRun-ended [] [] keys same none = tt
IsLegalRun-ended [] (reply ∷ replies) keys same none = absurd (omega arith)
IsLegalRun-ended (call ∷ calls) replies keys same none = absurd (omega arith)
