use Rattle.std.proofs.Common.{ap, sym, ◌∙◌}
use Rattle.record_memory.specs.declared.books.Moves.{Moves}
use Rattle.record_memory.specs.declared.books.View.{View}
use Rattle.row_words.specs.declared.links.Chain.{Chain}
use Rattle.record_table.specs.Handles.{view}
use Rattle.manager.specs.Counted.{shown}
use Rattle.manager.proofs.MoveCounts.{freed_is, spent_is}
use Rattle.reclaim_api.proofs.Kept.{spare_rest}
use Rattle.manager.proofs.Stay.{chains_freed}
use Rattle.manager.proofs.Stocks.{stays_kept, spares_kept}
use Rattle.manager.proofs.FreeGivings.{rest_then, gives_rest, enters_on}
use Rattle.manager.proofs.callers.enter.Goals as goal

pub give_chains-requires-clause-caller : goal.give_chains-requires-clause-caller
give_chains-requires-clause-caller g c = let a = c.args.caller.now in let e = c.enter-left.ensures in let q = c.enter-left.new.pass in record {
  inside = e.pass.entered;
  chains = chains_freed _ a.pass q a.local c.enter-left.new.local a.free a.spare e.pass.same.setup c.requires.caller.chains e.local c.enter-left.new.free c.enter-left.result e.free e.frees (spare_rest (view a.pass) (view q) e.rest.rest);
  counts = let h = c.requires.caller.counts in let m = e.rest.moves in record {
    drawn = h.drawn ∙ ap (λ (x : Moves). shown x.drawn) (sym m);
    reused = h.reused ∙ ap (λ (x : Moves). shown x.reused) (sym m);
    retired = h.retired ∙ ap (λ (x : Moves). shown x.retired) (sym m);
    freed = freed_is (view a.pass) (view q) a.moved a.free c.enter-left.new.free c.enter-left.result e.frees _ c.raised-caller.ensures h;
    spent = spent_is (view a.pass) (view q) a.moved a.free c.enter-left.new.free c.enter-left.result e.frees _ c.raised-caller-2.ensures h;
    limbo = e.frees.limbo h.limbo;
  };
}

pub returns-clause-pass : goal.returns-clause-pass
returns-clause-pass g c = enters_on c.args.caller.now.pass c.enter-left.new.pass c.give_chains.new.caller.pass c.enter-left.ensures.pass c.give_chains.ensures.pass c.give_chains.ensures.caller.inside

pub returns-clause-rest : goal.returns-clause-rest
returns-clause-rest g c = let q : View = view c.enter-left.new.pass in let w : View = view c.give_chains.new.caller.pass in rest_then (view c.args.caller.now.pass) q w c.enter-left.ensures.rest (gives_rest q w c.give_chains.ensures.free)

pub returns-clause-stock : goal.returns-clause-stock
returns-clause-stock g c = let a = c.args.caller.now in let b = c.give_chains.new.caller in let u : View = view a.pass in let v : View = view c.enter-left.new.pass in let w : View = view b.pass in record {
  spare = spares_kept _ a.pass b.pass a.local b.local a.free a.spare b.free b.spare c.requires.caller.chains c.give_chains.ensures.caller.chains (ap (λ (x : Chain). x.count) c.give_chains.ensures.spare);
  kept = λ r was. stays_kept v w (spare_rest v w c.give_chains.ensures.free.rest) r (stays_kept u v (spare_rest u v c.enter-left.ensures.rest.rest) r was);
  drawn = ap (λ (m : Moves). m.drawn) c.give_chains.ensures.free.moves ∙ ap (λ (m : Moves). m.drawn) c.enter-left.ensures.rest.moves;
  reused = ap (λ (m : Moves). m.reused) c.give_chains.ensures.free.moves ∙ ap (λ (m : Moves). m.reused) c.enter-left.ensures.rest.moves;
  births = ap (λ (m : Moves). m.births) c.give_chains.ensures.free.moves ∙ ap (λ (m : Moves). m.births) c.enter-left.ensures.rest.moves;
}

pub returns-clause-does : goal.returns-clause-does
returns-clause-does g c = ((view c.enter-left.new.pass).own, c.enter-left.result, c.enter-left.ensures.does, c.give_chains.ensures.did)
