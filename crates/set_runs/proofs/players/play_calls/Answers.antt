use Rattle.std.proofs.Common.{◌++◌, refl, sym, ap, ◌∙◌, arith, [], ◌∷◌}
use Rattle.std.proofs.lemmas.List.{append_assoc, append-nil}
use Rattle.set_api.specs.Turns.{Turns}
use Rattle.set_runs.proofs.Progress.{turns_more}
use Rattle.set_runs.proofs.players.play_calls.Goals as goal

pub loop-call-init : goal.loop-call-init
loop-call-init g c = record {
  has = c.requires.has;
  turns = ([], sym (append-nil _), Turns.none);
  same_number = refl;
  count = omega arith;
  room = c.requires.room;
  same_capacity = omega arith;
}

pub loop-call-preserved : goal.loop-call-preserved
loop-call-preserved g c =
    let items = rw c.unwrap.ensures at c.push.ensures.items in
    let pushed = rw c.unwrap.ensures at c.push.ensures.len in
    let before = c.loop-call.invariant.turns in
    record {
      has = c.play_call-reply.ensures.has;
      turns = (
        before.0 ++ c.play_call-reply.result ∷ [],
        items ∙ ap (λ l. l ++ c.play_call-reply.result ∷ []) before.1 ∙ append_assoc c.args.player.now.replies.items before.0 (c.play_call-reply.result ∷ []),
        turns_more c.args.calls.now c.loop-call.call-index c.loop-call-test.true before.2 c.play_call-reply.ensures.turn,
      );
      same_number = c.loop-call.invariant.same_number;
      count = omega (arith, pushed, c.loop-call.invariant.count);
      room = omega (arith, c.push.ensures.capacity, c.loop-call.invariant.room);
      same_capacity = omega (arith, c.push.ensures.capacity, c.loop-call.invariant.same_capacity);
    }
