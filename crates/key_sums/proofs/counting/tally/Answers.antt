use Rattle.std.proofs.Common.{◌≡◌, List, length, ap, ◌∙◌, inl, inr, arith}
use Rattle.std.specs.List.{zip}
use Rattle.std.specs.Iterator.Adapters.{zip_first, zip_second}
use Rattle.std.specs.Slice.Iter.{iter_rest}
use Rattle.set_model.specs.declared.calls.Call.{Call}
use Rattle.set_model.specs.declared.calls.Reply.{Reply}
use Rattle.key_sums.specs.Tallies.{is_addition, is_removal, key_if, one_if}
use Rattle.key_sums.proofs.TallySteps.{counted_more, counted_all, one_small}
use Rattle.key_sums.proofs.counting.tally.Goals as goal

pub loop-call-init : goal.loop-call-init
loop-call-init c =
    let calls = ap (λ z. iter_rest (zip_first z)) c.into_iter-call-iterator.ensures.into_iter_gives ∙ ap iter_rest c.zip-call-items.ensures.first ∙ c.iter.ensures.rest in
    let replies = ap (λ z. iter_rest (zip_second z)) c.into_iter-call-iterator.ensures.into_iter_gives ∙ c.zip-call-items.ensures.second.0 in
    record {
      can_next = (tt, tt);
      finite = tt;
      same_length = rw (calls, replies) c.requires;
      added = rw (calls, replies) (omega arith);
      removed = rw (calls, replies) (omega arith);
      added_sum = rw (calls, replies) (omega arith);
      removed_sum = rw (calls, replies) (omega arith);
      few = rw calls (omega arith, omega arith);
      small = rw calls (omega arith, omega arith);
    }

pub with_answer-tally-requires-clause-counts : goal.with_answer-tally-requires-clause-counts
with_answer-tally-requires-clause-counts c =
    let turn = c.in-Some.ensures.steps in
    let few = rw turn.0 at c.loop-call.invariant.few in
    (omega (arith, few.0, c.iter.ensures.bound), omega (arith, few.1, c.iter.ensures.bound))

pub with_answer-tally-requires-clause-sums : goal.with_answer-tally-requires-clause-sums
with_answer-tally-requires-clause-sums c =
    let turn = c.in-Some.ensures.steps in
    let small = rw turn.0 at c.loop-call.invariant.small in
    (omega (arith, small.0, c.iter.ensures.bound), omega (arith, small.1, c.iter.ensures.bound))

pub loop-call-preserved : goal.loop-call-preserved
loop-call-preserved c =
    let turn = c.in-Some.ensures.steps in
    let w = c.loop-call.invariant in
    let answer : Call × Reply = (c.in-Some.call.now, c.in-Some.reply.now) in
    let left : List (Call × Reply) = zip (iter_rest (zip_first c.next.new.self)) (iter_rest (zip_second c.next.new.self)) in
    let few = rw turn.0 at w.few in
    let small = rw turn.0 at w.small in
    record {
      can_next = (tt, tt);
      finite = tt;
      same_length = omega (arith, rw (turn.0, turn.1) at w.same_length);
      added = counted_more (λ a. one_if (is_addition a)) answer left _ _ _ (rw (turn.0, turn.1) at w.added) c.with_answer-tally.ensures.added;
      removed = counted_more (λ a. one_if (is_removal a)) answer left _ _ _ (rw (turn.0, turn.1) at w.removed) c.with_answer-tally.ensures.removed;
      added_sum = counted_more (key_if is_addition) answer left _ _ _ (rw (turn.0, turn.1) at w.added_sum) c.with_answer-tally.ensures.added_sum;
      removed_sum = counted_more (key_if is_removal) answer left _ _ _ (rw (turn.0, turn.1) at w.removed_sum) c.with_answer-tally.ensures.removed_sum;
      few = (
        omega (arith, few.0, c.with_answer-tally.ensures.added, one_small (is_addition answer)),
        omega (arith, few.1, c.with_answer-tally.ensures.removed, one_small (is_removal answer)),
      );
      small = (omega (arith, small.0, c.with_answer-tally.ensures.small.0), omega (arith, small.1, c.with_answer-tally.ensures.small.1));
    }

pub returns : goal.returns
returns c =
    let w = c.loop-call.invariant in
    let none : length (iter_rest (zip_first c.loop-call.call-iterator)) ≡ 0 = elim c.in-None.ensures.steps [
      | inl calls ↦ calls.1.0
      | inr replies ↦ omega (arith, replies.1.0, w.same_length)
    ] in
    record {
      tally = record {
        added = counted_all (λ a. one_if (is_addition a)) _ _ _ _ none w.added;
        removed = counted_all (λ a. one_if (is_removal a)) _ _ _ _ none w.removed;
        added_sum = counted_all (key_if is_addition) _ _ _ _ none w.added_sum;
        removed_sum = counted_all (key_if is_removal) _ _ _ _ none w.removed_sum;
      };
    }
