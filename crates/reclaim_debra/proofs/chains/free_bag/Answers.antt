use Rattle.std.proofs.Common.{ap, sym}
use Rattle.reclaim_api.proofs.Rows.{chain_back, kept_back}
use Rattle.reclaim_debra.proofs.chains.free_bag.Goals as goal

pub returns-clause-list : goal.returns-clause-list
returns-clause-list g c = let m = c.move_all-freed in chain_back c.args.table.now _ c.pass-1.given.0 m.new.words.pass.now (ap (λ t. t.now) m.ensures.same.0) (c.pass-1.given.1 (sym m.ensures.same.1)) m.new.to m.ensures.list

pub returns-clause-others : goal.returns-clause-others
returns-clause-others g c = let m = c.move_all-freed in
    λ other h apart. kept_back c.args.table.now _ c.pass-1.given.0 m.new.words.pass.now (ap (λ t. t.now) m.ensures.same.0) (c.pass-1.given.1 (sym m.ensures.same.1)) c.args.pass.now other (m.ensures.chains other h apart)
