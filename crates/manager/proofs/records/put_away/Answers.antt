use Rattle.std.proofs.Common.{ℕ, ◌+◌, ap, sym, ◌∙◌}
use Rattle.record_memory.specs.declared.books.Moves.{Moves}
use Rattle.manager.specs.Counted.{shown}
use Rattle.manager.proofs.MoveCounts.{freed_is, spent_is}
use Rattle.record_memory.specs.declared.books.Setup.{Setup}
use Rattle.record_memory.specs.declared.books.View.{View}
use Rattle.record_table.specs.Handles.{view}
use Rattle.row_words.specs.declared.links.Chain.{Chain}
use Rattle.reclaim_api.proofs.Kept.{spare_rest, spare_rest_but, own_rest_but}
use Rattle.reclaim_api.proofs.Keeping.{held_then}
use Rattle.record_pieces.proofs.Hands.{hand_rest_but}
use Rattle.manager.proofs.Stay.{chains_freed, keeps_after}
use Rattle.manager.proofs.FreeGivings.{gives_rest, gives_owns, gives_hand}
use Rattle.manager.proofs.Stocks.{stays_kept, spares_kept}
use Rattle.manager.proofs.KeepLocks.{makes_locks}
use Rattle.manager.proofs.records.put_away.Goals as goal

pub give_chains-requires-clause-caller : goal.give_chains-requires-clause-caller
give_chains-requires-clause-caller g c = let a = c.args.caller.now in let e = c.put_away-left.ensures in let q = c.put_away-left.new.pass in record {
  inside = e.inside;
  chains = chains_freed _ a.pass q a.local c.put_away-left.new.local a.free a.spare e.pass.setup c.requires.caller.chains e.local c.put_away-left.new.free c.put_away-left.result e.free e.frees
      (spare_rest_but (view a.pass) (view q) c.args.taken c.requires.taken.0 c.requires.taken.1 e.rest);
  counts = let h = c.requires.caller.counts in let m = e.rest.moves in record {
    drawn = h.drawn ∙ ap (λ (x : Moves). shown x.drawn) (sym m);
    reused = h.reused ∙ ap (λ (x : Moves). shown x.reused) (sym m);
    retired = c.raised-caller.ensures _ h.retired ∙ ap (λ (x : Moves). shown x.retired) (sym m);
    freed = freed_is (view a.pass) (view q) a.moved a.free c.put_away-left.new.free c.put_away-left.result e.frees _ c.raised-caller-2.ensures h;
    spent = spent_is (view a.pass) (view q) a.moved a.free c.put_away-left.new.free c.put_away-left.result e.frees _ c.raised-caller-3.ensures h;
    limbo = e.frees.limbo h.limbo;
  };
}

pub returns-clause-keeps : goal.returns-clause-keeps
returns-clause-keeps g c = let q = c.put_away-left.new.pass in let z = c.give_chains.new.caller.pass in let f = c.give_chains.ensures.free in
    held_then c.args.caller.now.pass q z c.put_away-left.ensures.keeps (keeps_after q z c.give_chains.ensures.pass f.steps f.made)

pub returns-clause-answers : goal.returns-clause-answers
returns-clause-answers g c = let e = c.put_away-left.ensures.rest in let r = gives_rest (view c.put_away-left.new.pass) (view c.give_chains.new.caller.pass) c.give_chains.ensures.free in record { answered = r.answered ∙ e.answered; front = r.front ∙ e.front }

pub returns-clause-owns : goal.returns-clause-owns
returns-clause-owns g c r own = let a = c.args.caller.now in let e = c.put_away-left.ensures in let q = c.put_away-left.new.pass in
    gives_owns (view q) (view c.give_chains.new.caller.pass) c.give_chains.ensures.free (ap (λ (k : Setup). k.records) c.give_chains.ensures.pass.setup) r
    (own_rest_but (view a.pass) (view q) c.args.taken c.requires.taken.0 c.requires.taken.1 e.rest (ap (λ (k : Setup). k.records) e.pass.setup) r own)

pub returns-clause-stock : goal.returns-clause-stock
returns-clause-stock g c = let a = c.args.caller.now in let b = c.give_chains.new.caller in let u : View = view a.pass in let v : View = view c.put_away-left.new.pass in let w : View = view b.pass in record {
  spare = spares_kept _ a.pass b.pass a.local b.local a.free a.spare b.free b.spare c.requires.caller.chains c.give_chains.ensures.caller.chains (ap (λ (x : Chain). x.count) c.give_chains.ensures.spare);
  kept = λ r was. stays_kept v w (spare_rest v w c.give_chains.ensures.free.rest) r (stays_kept u v (spare_rest_but u v c.args.taken c.requires.taken.0 c.requires.taken.1 c.put_away-left.ensures.rest) r was);
  drawn = ap (λ (m : Moves). m.drawn) c.give_chains.ensures.free.moves ∙ ap (λ (m : Moves). m.drawn) c.put_away-left.ensures.rest.moves;
  reused = ap (λ (m : Moves). m.reused) c.give_chains.ensures.free.moves ∙ ap (λ (m : Moves). m.reused) c.put_away-left.ensures.rest.moves;
  births = ap (λ (m : Moves). m.births) c.give_chains.ensures.free.moves ∙ ap (λ (m : Moves). m.births) c.put_away-left.ensures.rest.moves;
}

pub returns-clause-retired : goal.returns-clause-retired
returns-clause-retired g c = ap (λ (m : Moves). m.retired) c.give_chains.ensures.free.moves ∙ ap (λ (m : Moves). m.retired) c.put_away-left.ensures.rest.moves

pub returns-clause-hand : goal.returns-clause-hand
returns-clause-hand g c = ap (λ (n : ℕ). n + 1) (gives_hand (view c.put_away-left.new.pass) (view c.give_chains.new.caller.pass) c.give_chains.ensures.free)
    ∙ hand_rest_but (view c.args.caller.now.pass) (view c.put_away-left.new.pass) c.args.taken c.requires.taken.0 c.requires.taken.1 c.put_away-left.ensures.rest

pub returns-clause-does : goal.returns-clause-does
returns-clause-does g c = ((view c.put_away-left.new.pass).own, c.put_away-left.result, c.put_away-left.ensures.does, c.give_chains.ensures.did)

pub returns-clause-locks : goal.returns-clause-locks
returns-clause-locks g c = let f = c.give_chains.ensures.free in makes_locks _ _ f.steps f.made ∙ c.put_away-left.ensures.rest.locks
