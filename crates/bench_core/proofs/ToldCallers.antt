-- How far a run over the pieces has come, and what each caller was told.
use Rattle.std.proofs.Common.{◌≡◌, ◌≢◌, ◌⊎◌, inl, inr, ℕ, zero, suc, ◌+◌, ◌<◌, ◌≤◌, cond, Some, List, [], ◌∷◌, ◌++◌, length, get_or, set, slice_get, sym, ap, ◌∙◌, refl, subst, arith, append_assoc, append-nil, length-append, length-set, vec_capacity}
use Rattle.std.specs.Global.{Vec}
use Rattle.std.proofs.lemmas.Bool.{eq-eqb, ne_eqb}
use Rattle.std.proofs.lemmas.Option.{slice_get_within}
use Rattle.set_model.specs.declared.calls.Call.{Call}
use Rattle.set_model.specs.declared.calls.Reply.{Reply}
use Rattle.set_model.specs.Keys.{Keys, empty, size_of}
use Rattle.set_model.specs.Machine.{replies_of, keys_after_all, insertions_in}
use Rattle.set_model.proofs.KeySets.{size_of-empty}
use Rattle.set_model.proofs.MachineRuns.{keys_after_all-append, size_of-keys_after_all-le}
use Rattle.workload_text.specs.Limits.{IsWorkload, Plan, joined}
use Rattle.bench_core.specs.Plays.{Piece, order_of, called, told_to, keys_left, AreReady, AreTold}
use Rattle.bench_core.proofs.PlainRuns.{insertions_in-append}
use Rattle.bench_core.proofs.PlayOrder.{own_count-order, length-told_to}

-- an element that was written, or another one
pub slice_get-set : {X : Type 0} (xs : List X) (i : ℕ) (y : X) (k : ℕ) (z : X) → slice_get (set xs i y) k ≡ Some z → ((k ≡ i) × (z ≡ y)) ⊎ ((k ≢ i) × (slice_get xs k ≡ Some z))
slice_get-set [] i y k z is = absurd (cc)
slice_get-set (x ∷ xs) zero y zero z is = inl (refl, cc)
slice_get-set (x ∷ xs) zero y (suc k) z is = inr ((omega arith), is)
slice_get-set (x ∷ xs) (suc i) y zero z is = inr ((omega arith), is)
slice_get-set (x ∷ xs) (suc i) y (suc k) z is =
    elim (slice_get-set xs i y k z is) [ inl h ↦ inl ((omega (arith, h.0)), h.1) | inr h ↦ inr ((omega (arith, h.0)), h.1) ]

-- These pieces are left to play, with these keys, this room and these replies to each caller.
pub record RunsTo (lists : List (List (List Call))) (rest : List Piece) (keys : Keys) (room : ℕ) (replies : List (Vec Reply)) : Type 0 where
  pub count : length replies ≡ length lists
  pub told : (caller : ℕ) (own : Vec Reply) → slice_get replies caller ≡ Some own → own.items ++ told_to caller rest keys ≡ told_to caller (order_of lists) empty
  pub room_for_replies : (caller : ℕ) (own : Vec Reply) → slice_get replies caller ≡ Some own → length (get_or (joined lists) caller []) ≤ vec_capacity own
  pub left : keys_after_all (called rest) keys ≡ keys_left lists
  pub fits : size_of keys + insertions_in (called rest) ≤ room

pub RunsTo-same : {lists : List (List (List Call))} {rest more : List Piece} {keys : Keys} {room : ℕ} {replies : List (Vec Reply)}
    → rest ≡ more → RunsTo lists rest keys room replies → RunsTo lists more keys room replies
RunsTo-same {lists = lists} {keys = keys} {room = room} {replies = replies} same p = subst (λ (pieces : List Piece). RunsTo lists pieces keys room replies) same p

pub RunsTo-start : {lists : List (List (List Call))} {keys : Keys} {room : ℕ} {replies : List (Vec Reply)}
    → keys ≡ empty → insertions_in (called (order_of lists)) ≤ room → AreReady lists replies → RunsTo lists (order_of lists) keys room replies
RunsTo-start {lists = lists} {keys = keys} {room = room} {replies = replies} none fits ready = record {
  count = ready.count;
  told = (λ caller own is.
      ap (λ items. items ++ told_to caller (order_of lists) keys) ((ready.room caller own is).0) ∙ ap (λ ks. told_to caller (order_of lists) ks) none);
  room_for_replies = (λ caller own is. (ready.room caller own is).1);
  left = ap (λ ks. keys_after_all (called (order_of lists)) ks) none;
  fits = omega (arith, ap size_of none, size_of-empty, fits);
}

-- what a caller is told of its own piece, and what another is told of it
own-turn : (caller : ℕ) (calls : List Call) (rest : List Piece) (keys : Keys)
    → told_to caller (record { caller = caller; calls = calls } ∷ rest) keys ≡ replies_of calls keys ++ told_to caller rest (keys_after_all calls keys)
own-turn caller calls rest keys =
    ap (λ own. cond own (replies_of calls keys) [] ++ told_to caller rest (keys_after_all calls keys)) (eq-eqb caller caller refl)

other-turn : (caller other : ℕ) (calls : List Call) (rest : List Piece) (keys : Keys) → caller ≢ other
    → told_to other (record { caller = caller; calls = calls } ∷ rest) keys ≡ told_to other rest (keys_after_all calls keys)
other-turn caller other calls rest keys differ =
    ap (λ own. cond own (replies_of calls keys) [] ++ told_to other rest (keys_after_all calls keys)) (ne_eqb caller other differ)

-- one piece was played, and its caller's list has the replies at its end
pub RunsTo-turn : {lists : List (List (List Call))} {caller : ℕ} {calls : List Call} {rest : List Piece} {keys : Keys} {room : ℕ} {replies : List (Vec Reply)} (own more : Vec Reply)
    → RunsTo lists (record { caller = caller; calls = calls } ∷ rest) keys room replies → slice_get replies caller ≡ Some own
    → more.items ≡ own.items ++ replies_of calls keys → vec_capacity own ≤ vec_capacity more
    → RunsTo lists rest (keys_after_all calls keys) room (set replies caller more)
RunsTo-turn {lists = lists} {caller = caller} {calls = calls} {rest = rest} {keys = keys} {replies = replies} own more p at grown larger =
    let after = keys_after_all calls keys in
    record {
      count = length-set replies caller more ∙ p.count;
      told = (λ other list is.
          elim (slice_get-set replies caller more other list is) as (λ w. list.items ++ told_to other rest after ≡ told_to other (order_of lists) empty) [
            | inl h ↦ ap (λ v. v.items ++ told_to other rest after) h.1
                ∙ ap (λ k. more.items ++ told_to k rest after) h.0
                ∙ ap (λ items. items ++ told_to caller rest after) grown
                ∙ append_assoc own.items (replies_of calls keys) (told_to caller rest after)
                ∙ ap (λ told. own.items ++ told) (sym (own-turn caller calls rest keys))
                ∙ p.told caller own at
                ∙ sym (ap (λ k. told_to k (order_of lists) empty) h.0)
            | inr h ↦ ap (λ told. list.items ++ told) (sym (other-turn caller other calls rest keys (λ e. h.0 (sym e)))) ∙ p.told other list h.1
          ]);
      room_for_replies = (λ other list is.
          elim (slice_get-set replies caller more other list is) as (λ w. length (get_or (joined lists) other []) ≤ vec_capacity list) [
            | inl h ↦ omega (arith, ap (λ v. vec_capacity v) h.1, ap (λ k. length (get_or (joined lists) k [])) h.0, p.room_for_replies caller own at, larger)
            | inr h ↦ p.room_for_replies other list h.1
          ]);
      left = sym (keys_after_all-append calls (called rest) keys) ∙ p.left;
      fits = omega (arith, p.fits, insertions_in-append calls (called rest), size_of-keys_after_all-le calls keys);
    }

-- there is room for the keys of the next piece
pub RunsTo-room : {lists : List (List (List Call))} {caller : ℕ} {calls : List Call} {rest : List Piece} {keys : Keys} {room : ℕ} {replies : List (Vec Reply)}
    → RunsTo lists (record { caller = caller; calls = calls } ∷ rest) keys room replies → size_of keys + insertions_in calls ≤ room
RunsTo-room {calls = calls} {rest = rest} p = omega (arith, p.fits, insertions_in-append calls (called rest))

-- and the replies to it are among those to the caller's calls
pub RunsTo-few : {caller : ℕ} {calls : List Call} {rest : List Piece} {keys : Keys} {room : ℕ} {replies : List (Vec Reply)} (plan : Plan) → IsWorkload plan → (own : Vec Reply)
    → RunsTo plan.lists (record { caller = caller; calls = calls } ∷ rest) keys room replies → slice_get replies caller ≡ Some own
    → length own.items + length calls ≤ length (get_or (joined plan.lists) caller [])
RunsTo-few {caller = caller} {calls = calls} {rest = rest} {keys = keys} {replies = replies} plan limits own p at =
    let pieces : List Piece = record { caller = caller; calls = calls } ∷ rest in
    let within : caller < length plan.lists = omega (arith, p.count, slice_get_within replies caller own at) in
    omega (
      arith,
      ap length (p.told caller own at),
      length-append own.items (told_to caller pieces keys),
      length-told_to caller pieces keys,
      ap (λ own. cond own (length calls) 0) (eq-eqb caller caller refl),
      length-told_to caller (order_of plan.lists) empty,
      own_count-order plan limits caller within,
    )

pub RunsTo-end : {lists : List (List (List Call))} {keys : Keys} {room : ℕ} {replies : List (Vec Reply)} → RunsTo lists [] keys room replies → AreTold lists replies
RunsTo-end p = record { count = p.count; told = (λ caller own is. sym (append-nil own.items) ∙ p.told caller own is) }
