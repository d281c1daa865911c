use Rattle.std.proofs.Common.{ℕ, subst}
use Rattle.record_table.specs.Handles.{view, setup_of}
use Rattle.reclaim_debra.specs.Entering.{HasTried}
use Rattle.reclaim_debra.proofs.Scans.{scanned_all, scanned_some}
use Rattle.reclaim_debra.proofs.entering.scan.Goals as goal

pub returns-then-look-clause-scanned : goal.returns-then-look-clause-scanned
returns-then-look-clause-scanned g c = scanned_all (setup_of c.args.table.now) (view c.args.pass.now) (view c.look.new.pass) c.args.bags.now.reading c.args.bags.now.place c.look.new.bags.place c.look.result c.look.ensures.last c.look.ensures.looked
    (view c.advance.new.pass) c.look.ensures.rest.mine c.if-look.true (subst (λ (n : ℕ). HasTried (view c.look.new.pass) n (view c.advance.new.pass)) c.look.ensures.reading c.advance.ensures.tried)

pub returns-else-look-clause-scanned : goal.returns-else-look-clause-scanned
returns-else-look-clause-scanned g c = scanned_some (setup_of c.args.table.now) (view c.args.pass.now) (view c.look.new.pass) c.args.bags.now.reading c.args.bags.now.place c.look.new.bags.place c.look.result c.look.ensures.last c.look.ensures.looked c.if-look.false
