use Rattle.std.proofs.Common.{◌≡◌, None, ap, sym, ◌∙◌, subst, arith}
use Rattle.record_table.specs.Handles.{setup_of, view}
use Rattle.record_pieces.specs.Manners.{Manner}
use Rattle.record_pieces.specs.Hands.{in_hand}
use Rattle.record_pieces.specs.Events.{Gets, Takes, from_spare, handed}
use Rattle.row_words.specs.Refs.{RefParts}
use Rattle.row_words.specs.declared.links.Chain.{Chain}
use Rattle.reclaim_api.specs.Holds.{KeepsHeld}
use Rattle.reclaim_api.proofs.Keeping.{held_then}
use Rattle.manager.specs.Manners.{manner}
use Rattle.manager.proofs.Stay.{keeps_after}
use Rattle.manager.proofs.Stocks.{no_spare}
use Rattle.manager.proofs.KeepLocks.{makes_locks}
use Rattle.manager.proofs.records.fresh.Goals as goal

pub returns-in-Some-clause-did : goal.returns-in-Some-clause-did
returns-in-Some-clause-did g c = let e = c.in-Some.ensures in let d = e.does in record { acts = from_spare d.0 d.1 d.2 d.3 d.4 e.stock; hand = omega (arith, e.hand); retires = omega (arith, e.retired) }

pub returns-clause-did : goal.returns-clause-did
returns-clause-did g c = let k = setup_of c.args.table.now in let h = c.hand_out.ensures.does in let b = (view c.args.caller.now.pass).own in let w = (view c.hand_out.new.caller.pass).own in
    let m : Manner = manner g.R.Scheme.enters g.R.Scheme.leaves g.R.Scheme.bears g.R.Scheme.reaches g.R.Scheme.puts_away g.A.Allocator.draws g.A.Allocator.refuses g.P.Pool.SHELVES g.P.Pool.busy in
    let gets = subst (λ x. Gets m k (view x.pass).own c.in_ok-r.r (view c.take_next.new.caller.pass).own) c.in_default.ensures.none.0 c.in_ok-r.ensures.did in
    let a = c.args.caller.now in let none = c.in_default.ensures.none in let next = c.take_next.new.caller in let stock = c.hand_out.ensures.stock in
    let left : next.spare.head ≡ None = ap (λ (x : Chain). x.head) c.take_next.ensures.spare ∙ ap (λ x. x.spare.head) none.0 ∙ none.1 in
    let before : in_hand (view c.take_spare.new.caller.pass).own ≡ in_hand b = ap (λ x. in_hand (view x.pass).own) none.0 in record {
      acts = subst (λ (z : RefParts). Takes m k b z w) (sym c.hand_out.ensures.record)
          (handed _ h.0 h.1 (no_spare _ a.pass a.local a.free a.spare c.requires.caller.chains none.1) gets (c.take_next.ensures.births ∙ ap (λ x. (view x.pass).own.moves.births) none.0) h.2 h.3 stock.1 (stock.0 ∙ no_spare _ next.pass next.local next.free next.spare c.take_next.ensures.caller.chains left));
      hand = omega (arith, c.hand_out.ensures.hand, c.in_ok-r.ensures.hand, before);
      retires = omega (arith, c.hand_out.ensures.retired, c.take_next.ensures.made.1.retired, ap (λ x. (view x.pass).own.moves.retired) none.0);
    }

pub returns-clause-keeps : goal.returns-clause-keeps
returns-clause-keeps g c = let m = c.take_next.ensures.made in
    subst (λ x. KeepsHeld x.pass c.hand_out.new.caller.pass) c.in_default.ensures.none.0 (held_then c.take_spare.new.caller.pass c.take_next.new.caller.pass c.hand_out.new.caller.pass
    (keeps_after c.take_spare.new.caller.pass c.take_next.new.caller.pass c.take_next.ensures.pass m.0 m.1) c.hand_out.ensures.keeps)

pub returns-in_err-r-clause-locks : goal.returns-in_err-r-clause-locks
returns-in_err-r-clause-locks g c = makes_locks _ _ _ c.take_next.ensures.made.1 ∙ c.take_spare.ensures.locks

pub returns-clause-locks : goal.returns-clause-locks
returns-clause-locks g c = c.hand_out.ensures.locks ∙ makes_locks _ _ _ c.take_next.ensures.made.1 ∙ c.take_spare.ensures.locks
