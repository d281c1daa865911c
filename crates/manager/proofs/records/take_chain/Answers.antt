use Rattle.std.proofs.Common.{ap, subst, get_or, None, ◌∙◌, arith}
use Rattle.record_memory.specs.declared.books.Moves.{Moves}
use Rattle.record_memory.specs.declared.books.View.{View}
use Rattle.record_memory.specs.declared.books.Setup.{Setup}
use Rattle.record_memory.specs.declared.books.Standing.TheVariants.{Own, Free, Spare}
use Rattle.record_table.specs.Handles.{view}
use Rattle.record_rule.proofs.Makes.{idle_mine}
use Rattle.pool.specs.Calls.{Takes}
use Rattle.reclaim_api.specs.Frames.{in_away}
use Rattle.reclaim_api.proofs.Kept.{chain_stays}
use Rattle.record_pieces.proofs.Hands.{hand_mine}
use Rattle.manager.proofs.Empty.{none_in}
use Rattle.manager.proofs.Stay.{mine_stays, inside_after, chains_after}
use Rattle.manager.proofs.MoveCounts.{same_moves, counted_still}
use Rattle.manager.proofs.Gaining.{gained_hand, gained_stays, gained_limbo, gained_idle}
use Rattle.manager.proofs.Owns.{owns_mine, owns_stay}
use Rattle.manager.proofs.records.take_chain.Goals as goal

pub returns-in-Some-clause-caller : goal.returns-in-Some-clause-caller
returns-in-Some-clause-caller g c = let a = c.args.caller.now in let q = c.take.new.pass in let v : View = view a.pass in let w : View = view q in let e = c.take.ensures in let h = c.requires.caller in
    let t = subst (Takes g.P.Pool.SHELVES g.P.Pool.busy v w) c.in-Some.is e.takes in let chain = c.in-Some.chain in record {
      inside = inside_after a.pass q e.pass t.steps t.made h.inside;
      chains = chains_after a.pass q e.pass t.steps t.made _ a.local a.free a.spare chain a.spare g.met.R.Scheme.local_stays h.chains (ap (λ (m : Moves). m.births) t.moves) (gained_limbo v w chain t.answer.0 t.answer.1)
          t.answer.0.list
          (chain_stays Spare v w (ap (λ (k : Setup). k.records) e.pass.setup) (gained_stays v w chain t.answer.0 t.answer.1 Spare) a.spare h.chains.spares)
          (let i = gained_idle v w chain t.answer.0 t.answer.1 in let all = h.chains.all in let none = none_in Free v a.free h.chains.frees c.requires.none in omega arith);
      counts = counted_still v w a.moved (gained_limbo v w chain t.answer.0 t.answer.1) (same_moves v.own.moves w.own.moves t.moves) h.counts;
    }

pub returns-in-None-clause-caller : goal.returns-in-None-clause-caller
returns-in-None-clause-caller g c = let a = c.args.caller.now in let q = c.take.new.pass in let v : View = view a.pass in let w : View = view q in let e = c.take.ensures in let h = c.requires.caller in
    let t = subst (Takes g.P.Pool.SHELVES g.P.Pool.busy v w) c.in-None.is e.takes in let records = ap (λ (k : Setup). k.records) e.pass.setup in record {
      inside = inside_after a.pass q e.pass t.steps t.made h.inside;
      chains = chains_after a.pass q e.pass t.steps t.made _ a.local a.free a.spare a.free a.spare g.met.R.Scheme.local_stays h.chains (ap (λ (m : Moves). m.births) t.moves) (λ i. ap (λ l. in_away (get_or l i None)) t.answer.0)
          (chain_stays Free v w records (mine_stays Free v w t.answer.0) a.free h.chains.frees)
          (chain_stays Spare v w records (mine_stays Spare v w t.answer.0) a.spare h.chains.spares)
          (idle_mine v w t.answer.0 ∙ h.chains.all);
      counts = counted_still v w a.moved (λ i. ap (λ l. in_away (get_or l i None)) t.answer.0) (same_moves v.own.moves w.own.moves t.moves) h.counts;
    }

pub returns-in-Some-clause-owns : goal.returns-in-Some-clause-owns
returns-in-Some-clause-owns g c = let v : View = view c.args.caller.now.pass in let w : View = view c.take.new.pass in let e = c.take.ensures in let t = subst (Takes g.P.Pool.SHELVES g.P.Pool.busy v w) c.in-Some.is e.takes in
    owns_stay v w (ap (λ (k : Setup). k.records) e.pass.setup) (gained_stays v w c.in-Some.chain t.answer.0 t.answer.1 Own)

pub returns-in-None-clause-owns : goal.returns-in-None-clause-owns
returns-in-None-clause-owns g c = let v : View = view c.args.caller.now.pass in let w : View = view c.take.new.pass in let e = c.take.ensures in let t = subst (Takes g.P.Pool.SHELVES g.P.Pool.busy v w) c.in-None.is e.takes in
    owns_mine v w (ap (λ (k : Setup). k.records) e.pass.setup) t.answer.0

pub returns-in-Some-clause-hand : goal.returns-in-Some-clause-hand
returns-in-Some-clause-hand g c = let v : View = view c.args.caller.now.pass in let w : View = view c.take.new.pass in let t = subst (Takes g.P.Pool.SHELVES g.P.Pool.busy v w) c.in-Some.is c.take.ensures.takes in
    gained_hand v w c.in-Some.chain t.answer.0 t.answer.1

pub returns-in-None-clause-hand : goal.returns-in-None-clause-hand
returns-in-None-clause-hand g c = let v : View = view c.args.caller.now.pass in let w : View = view c.take.new.pass in let t = subst (Takes g.P.Pool.SHELVES g.P.Pool.busy v w) c.in-None.is c.take.ensures.takes in hand_mine v.own w.own t.answer.0

pub returns-in-Some-clause-births : goal.returns-in-Some-clause-births
returns-in-Some-clause-births g c = let v : View = view c.args.caller.now.pass in let w : View = view c.take.new.pass in ap (λ (m : Moves). m.births) (subst (Takes g.P.Pool.SHELVES g.P.Pool.busy v w) c.in-Some.is c.take.ensures.takes).moves

pub returns-in-None-clause-births : goal.returns-in-None-clause-births
returns-in-None-clause-births g c = let v : View = view c.args.caller.now.pass in let w : View = view c.take.new.pass in ap (λ (m : Moves). m.births) (subst (Takes g.P.Pool.SHELVES g.P.Pool.busy v w) c.in-None.is c.take.ensures.takes).moves
