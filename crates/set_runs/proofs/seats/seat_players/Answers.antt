use Rattle.std.proofs.Common.{◌++◌, ◌∷◌, [], ◌≤◌, length, length-append, map, sum_by, get_or, ◌<◌, sym, ap, ◌∙◌, subst, arith, vec_capacity}
use Rattle.std.specs.Vec.Iter.{into_iter_items}
use Rattle.std.proofs.lemmas.List.{append_assoc, map-append, length-map}
use Rattle.set_runs.specs.Playing.{phases_of, IsSeated}
use Rattle.set_runs.specs.declared.players.Player.{Player}
use Rattle.set_runs.proofs.Seating.{each_push, calls_length}
use Rattle.set_runs.proofs.seats.seat_players.Goals as goal

pub overflow_cast-number : goal.overflow_cast-number
overflow_cast-number g c =
    omega (
      arith,
      c.len-number.ensures,
      ap length c.loop-caller.invariant.callers_are,
      length-append (map (λ (p : Player g.row.C.Denot). p.caller) c.loop-caller.players.items) (into_iter_items c.loop-caller.caller-iterator),
      length-map c.loop-caller.players.items (λ (p : Player g.row.C.Denot). p.caller),
      c.loop-caller.players.ok.0,
      c.requires,
      c.callers.ensures.limits.few_callers,
    )

pub loop-caller-preserved : goal.loop-caller-preserved
loop-caller-preserved g c =
    let players = c.loop-caller.players.items in
    let rest = into_iter_items c.next.new.self in
    let lists = c.args.workload.now.lists in
    let items = c.in_ok-push.ensures.items in
    let number = c.len-number.ensures ∙ c.loop-caller.players.ok.0 in
    let calls = calls_length lists c.len-number.result c.calls_of.result.now c.calls_of.ensures.calls in
    let room = subst (λ n. sum_by length (phases_of lists n) ≤ vec_capacity c.in_ok-replies.replies) number (omega (arith, calls, c.in_ok-replies.ensures.capacity)) in
    record {
      can_next = tt;
      is_finite = tt;
      callers_are = ap (λ l. map (λ (p : Player g.row.C.Denot). p.caller) l ++ rest) items ∙ ap (λ l. l ++ rest) (map-append (λ (p : Player g.row.C.Denot). p.caller) players _)
          ∙ append_assoc (map (λ (p : Player g.row.C.Denot). p.caller) players) (c.in-Some.caller ∷ []) rest ∙ ap (λ l. map (λ (p : Player g.row.C.Denot). p.caller) players ++ l) (sym c.in-Some.ensures.steps.0) ∙ c.loop-caller.invariant.callers_are;
      each = λ i d there. subst (λ l. (k : _) (e : Player g.row.C.Denot) → k < length l → IsSeated lists k (get_or l k e)) (sym items)
          (each_push (λ k (p : Player g.row.C.Denot). IsSeated lists k p) players _ c.loop-caller.invariant.each
          (record { number_is = number; none = c.in_ok-replies.ensures.items; room = room })) i d there;
    }
