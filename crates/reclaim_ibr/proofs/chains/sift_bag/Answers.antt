use Rattle.std.proofs.Common.{ap, sym}
use Rattle.reclaim_api.proofs.Rows.{chain_back}
use Rattle.reclaim_ibr.proofs.chains.sift_bag.Goals as goal

pub returns-clause-bag_list : goal.returns-clause-bag_list
returns-clause-bag_list g c = let m = c.sift-freed in chain_back c.args.table.now _ c.pass-1.given.0 m.new.words.pass.now (ap (λ t. t.now) m.ensures.same.0) (c.pass-1.given.1 (sym m.ensures.same.1)) m.new.bag m.ensures.bag_list

pub returns-clause-free_list : goal.returns-clause-free_list
returns-clause-free_list g c = let m = c.sift-freed in chain_back c.args.table.now _ c.pass-1.given.0 m.new.words.pass.now (ap (λ t. t.now) m.ensures.same.0) (c.pass-1.given.1 (sym m.ensures.same.1)) m.new.free m.ensures.free_list
