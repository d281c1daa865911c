use Rattle.std.proofs.Common.{◌≡◌, length, refl, ap, ◌∙◌, subst, inl, inr, arith}
use Rattle.std.proofs.lemmas.Bool.{false≢true}
use Rattle.std.specs.Prelude.{IsTrue}
use Rattle.std.specs.Iterator.Adapters.{zip_first, zip_second}
use Rattle.std.specs.Slice.Iter.{iter_rest}
use Rattle.set_model.specs.Keys.{size_of}
use Rattle.set_model.proofs.ExplainedRuns.{explained_run}
use Rattle.set_model.proofs.KeySets.{size_of-empty}
use Rattle.set_model.proofs.MachineRuns.{size_of-keys_after_reply-le, IsLegalRun-ended}
use Rattle.set_model.proofs.runs.legal_run.Goals as goal

pub loop-call-init : goal.loop-call-init
loop-call-init c =
    let calls = ap (λ z. iter_rest (zip_first z)) c.into_iter-call-iterator.ensures.into_iter_gives ∙ ap iter_rest c.zip-call-items.ensures.first ∙ c.iter.ensures.rest in
    let replies = ap (λ z. iter_rest (zip_second z)) c.into_iter-call-iterator.ensures.into_iter_gives ∙ c.zip-call-items.ensures.second.0 in
    record {
      can_next = (tt, tt);
      finite = tt;
      same_length = rw (calls, replies) c.requires;
      room = rw (calls, c.in_ok-set.ensures.keys) (omega (arith, size_of-empty, c.in_ok-set.ensures.room));
      rest = rw (calls, replies, c.in_ok-set.ensures.keys) (λ run. run, λ run. run);
    }

pub loop-call-preserved : goal.loop-call-preserved
loop-call-preserved c =
    let turn = c.in-Some.ensures.steps in
    let rest = rw (turn.0, turn.1) at c.loop-call.invariant.rest in
    let legal = c.is_legal_reply.ensures.legal.0 c.if-not-is_legal_reply.false in
    record {
      can_next = (tt, tt);
      finite = tt;
      same_length = omega (arith, rw (turn.0, turn.1) at c.loop-call.invariant.same_length);
      room = omega (
        arith,
        rw turn.0 at c.loop-call.invariant.room,
        c.is_legal_reply.ensures.room,
        ap size_of c.is_legal_reply.ensures.keys,
        size_of-keys_after_reply-le c.in-Some.call.now c.in-Some.reply.now c.loop-call.set.keys,
      );
      rest = rw c.is_legal_reply.ensures.keys (λ run. (rest.0 run).1, λ run. rest.1 (legal, run));
    }

pub returns-then-not-is_legal_reply-clause-explained : goal.returns-then-not-is_legal_reply-clause-explained
returns-then-not-is_legal_reply-clause-explained c =
    let turn = c.in-Some.ensures.steps in
    let rest = rw (turn.0, turn.1) at c.loop-call.invariant.rest in (
      λ never. absurd (false≢true never),
      λ told.
          subst IsTrue c.if-not-is_legal_reply.true (c.is_legal_reply.ensures.legal.1 (rest.0 ((explained_run c.args.calls.now c.args.replies.now).1 told)).0),
    )

pub returns-clause-explained : goal.returns-clause-explained
returns-clause-explained c =
    let none : length (iter_rest (zip_first c.loop-call.call-iterator)) ≡ 0 = elim c.in-None.ensures.steps [
      | inl calls ↦ calls.1.0
      | inr replies ↦ omega (arith, replies.1.0, c.loop-call.invariant.same_length)
    ] in
    let ended = IsLegalRun-ended _ _ c.loop-call.set.keys c.loop-call.invariant.same_length none in
    (λ _. (explained_run c.args.calls.now c.args.replies.now).0 (c.loop-call.invariant.rest.1 ended), λ _. refl)
