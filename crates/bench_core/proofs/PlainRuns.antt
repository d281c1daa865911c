-- Runs on a plain set, call by call.
use Rattle.std.proofs.Common.{◌≡◌, ℕ, ◌+◌, ◌*◌, ◌^◌, ◌<◌, ◌≤◌, List, [], ◌∷◌, ◌++◌, length, sym, ◌∙◌, refl, cond, arith, append_assoc}
use Rattle.std.specs.List.{AllByRecursion}
use Rattle.std.proofs.Math.Nat.{mul-le-mul_right}
use Rattle.std.proofs.lemmas.List.Sums.{sum_by-cons}
use Rattle.set_model.specs.declared.calls.Call.{Call}
use Rattle.set_model.specs.declared.calls.Reply.{Reply}
use Rattle.set_model.specs.Keys.{Keys, empty, size_of, sum_of}
use Rattle.set_model.specs.Machine.{is_insertion, insertions_in, keys_after, keys_after_all, reply_of, replies_of}
use Rattle.set_model.proofs.MachineRuns.{size_of-keys_after-le, sum_of-keys_after_all-le}
use Rattle.set_model.proofs.KeySets.{sum_of-empty}
use Rattle.workload_text.specs.Limits.{HasLawfulKey}

-- Of calls that are made from the first keys on, where some replies were noted already, these are the rest. Up to there
-- these replies were noted, these keys are left, and there is room for the rest.
pub record PlaysTo (calls : List Call) (first : Keys) (noted : List Reply) (rest : List Call) (keys : Keys) (replies : List Reply) (room : ℕ) : Type 0 where
  pub replied : noted ++ replies_of calls first ≡ replies ++ replies_of rest keys
  pub left : keys_after_all calls first ≡ keys_after_all rest keys
  pub fits : size_of keys + insertions_in rest ≤ room

pub PlaysTo-start : (calls : List Call) (keys : Keys) (noted : List Reply) (room : ℕ) → size_of keys + insertions_in calls ≤ room → PlaysTo calls keys noted calls keys noted room
PlaysTo-start calls keys noted room fits = record { replied = refl; left = refl; fits = fits }

pub PlaysTo-turn : {calls : List Call} {first : Keys} {noted : List Reply} {call : Call} {rest : List Call} {keys : Keys} {replies : List Reply} {room : ℕ}
    → PlaysTo calls first noted (call ∷ rest) keys replies room → PlaysTo calls first noted rest (keys_after call keys) (replies ++ reply_of call keys ∷ []) room
PlaysTo-turn {call = call} {rest = rest} {keys = keys} {replies = replies} p = record {
  replied = p.replied ∙ sym (append_assoc replies (reply_of call keys ∷ []) (replies_of rest (keys_after call keys)));
  left = p.left;
  fits = omega (arith, p.fits, size_of-keys_after-le call keys, sum_by-cons (λ c. cond (is_insertion c) 1 0) call rest);
}

pub insertions_in-append : (calls rest : List Call) → insertions_in (calls ++ rest) ≡ insertions_in calls + insertions_in rest
insertions_in-append [] rest = omega arith
insertions_in-append (call ∷ calls) rest =
    omega (arith, insertions_in-append calls rest, sum_by-cons (λ c. cond (is_insertion c) 1 0) call calls, sum_by-cons (λ c. cond (is_insertion c) 1 0) call (calls ++ rest))

pub lawful-append : (P : Call → Type 0) (calls rest : List Call) → AllByRecursion P calls → AllByRecursion P rest → AllByRecursion P (calls ++ rest)
lawful-append P [] rest first second = second
lawful-append P (call ∷ calls) rest first second = (first.0, lawful-append P calls rest first.1 second)

-- the sum of the keys that lawful calls leave fits 64 bits
pub sum-fits : (calls : List Call) → length calls ≤ 1000000 → AllByRecursion HasLawfulKey calls → sum_of (keys_after_all calls empty) < 2 ^ 64
sum-fits calls few lawful =
    let most : ℕ = 1099511627773 in
    let bound : length calls * most ≤ 1000000 * most = mul-le-mul_right {m = length calls} {n = 1000000} most few in
    omega (arith, bound, sum_of-empty, sum_of-keys_after_all-le most calls empty lawful)
