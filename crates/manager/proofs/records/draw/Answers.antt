use Rattle.std.proofs.Common.{ap, sym, ◌∙◌}
use Rattle.record_memory.specs.declared.books.Moves.{Moves}
use Rattle.manager.specs.Counted.{shown}
use Rattle.manager.proofs.MoveCounts.{same_moves, counted_still, spent_still, limbo_still}
use Rattle.record_memory.specs.declared.books.Setup.{Setup}
use Rattle.record_memory.specs.declared.books.View.{View}
use Rattle.record_memory.specs.declared.books.Standing.TheVariants.{Own, Spare, Free}
use Rattle.record_table.specs.Handles.{view}
use Rattle.reclaim_api.proofs.Kept.{chain_stays}
use Rattle.manager.proofs.Stay.{inside_after, chains_after}
use Rattle.manager.proofs.Drawing.{new_hand, draws_limbo, draws_stay, draws_idle, draws_makes}
use Rattle.manager.proofs.Owns.{owns_stay}
use Rattle.manager.proofs.records.draw.Goals as goal

pub returns-clause-made : goal.returns-clause-made
returns-clause-made g c = draws_makes (view c.args.caller.now.pass) (view c.draw.new.pass) c.draw.result c.draw.ensures.rest

pub returns-in_err-r-clause-caller : goal.returns-in_err-r-clause-caller
returns-in_err-r-clause-caller g c = let a = c.args.caller.now in let q = c.draw.new.pass in let e = c.draw.ensures in let h = c.requires.caller in let v : View = view a.pass in let w : View = view q in
    let m = draws_makes v w c.draw.result e.rest in let records = ap (λ (k : Setup). k.records) e.pass.setup in
    let away = draws_limbo v w c.draw.result e.new e.rest in record {
      inside = inside_after a.pass q e.pass m.0 m.1 h.inside;
      chains = chains_after a.pass q e.pass m.0 m.1 _ a.local a.free a.spare a.free a.spare g.met.R.Scheme.local_stays h.chains (ap (λ (x : Moves). x.births) c.in_err-r.ensures.rest.moves) away
          (chain_stays Free v w records (draws_stay v w c.draw.result e.new e.rest Free) a.free h.chains.frees)
          (chain_stays Spare v w records (draws_stay v w c.draw.result e.new e.rest Spare) a.spare h.chains.spares)
          (draws_idle v w c.draw.result e.new e.rest ∙ h.chains.all);
      counts = counted_still v w a.moved away (same_moves v.own.moves w.own.moves c.in_err-r.ensures.rest.moves) h.counts;
    }

pub returns-clause-caller : goal.returns-clause-caller
returns-clause-caller g c = let a = c.args.caller.now in let q = c.draw.new.pass in let e = c.draw.ensures in let h = c.requires.caller in let v : View = view a.pass in let w : View = view q in
    let m = draws_makes v w c.draw.result e.rest in let records = ap (λ (k : Setup). k.records) e.pass.setup in
    let away = draws_limbo v w c.draw.result e.new e.rest in let n = h.counts in let moves = c.in_ok-r.ensures.rest.moves in record {
      inside = inside_after a.pass q e.pass m.0 m.1 h.inside;
      chains = chains_after a.pass q e.pass m.0 m.1 _ a.local a.free a.spare a.free a.spare g.met.R.Scheme.local_stays h.chains (ap (λ (x : Moves). x.births) moves) away
          (chain_stays Free v w records (draws_stay v w c.draw.result e.new e.rest Free) a.free h.chains.frees)
          (chain_stays Spare v w records (draws_stay v w c.draw.result e.new e.rest Spare) a.spare h.chains.spares)
          (draws_idle v w c.draw.result e.new e.rest ∙ h.chains.all);
      counts = record {
        drawn = c.raised-caller.ensures _ n.drawn ∙ ap (λ (x : Moves). shown x.drawn) (sym moves);
        reused = n.reused ∙ ap (λ (x : Moves). shown x.reused) (sym moves);
        retired = n.retired ∙ ap (λ (x : Moves). shown x.retired) (sym moves);
        freed = n.freed ∙ ap (λ (x : Moves). shown x.freed) (sym moves);
        spent = spent_still v w a.moved away n;
        limbo = limbo_still v w a.moved away (sym (ap (λ (x : Moves). x.retired) moves)) (sym (ap (λ (x : Moves). x.freed) moves)) n.limbo;
      };
    }

pub returns-clause-owns : goal.returns-clause-owns
returns-clause-owns g c = let e = c.draw.ensures in owns_stay _ _ (ap (λ (k : Setup). k.records) e.pass.setup) (draws_stay (view c.args.caller.now.pass) (view c.draw.new.pass) c.draw.result e.new e.rest Own)

pub returns-in_err-r-clause-births : goal.returns-in_err-r-clause-births
returns-in_err-r-clause-births g c = ap (λ (m : Moves). m.births) c.in_err-r.ensures.rest.moves

pub returns-clause-births : goal.returns-clause-births
returns-clause-births g c = ap (λ (m : Moves). m.births) c.in_ok-r.ensures.rest.moves

pub returns-clause-moves : goal.returns-clause-moves
returns-clause-moves g c = let moves = c.in_ok-r.ensures.rest.moves in record { drawn = ap (λ (m : Moves). m.drawn) moves; reused = ap (λ (m : Moves). m.reused) moves }

pub returns-clause-hand : goal.returns-clause-hand
returns-clause-hand g c = let e = c.in_ok-r.ensures in new_hand (view c.args.caller.now.pass) (view c.draw.new.pass) c.in_ok-r.r e.new e.rest
