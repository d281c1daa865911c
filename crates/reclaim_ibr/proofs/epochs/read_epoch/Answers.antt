use Rattle.record_table.specs.Handles.{view, since, is_inside}
use Rattle.reclaim_ibr.proofs.Loads.{epoch_is_read}
use Rattle.reclaim_ibr.proofs.Locals.{local_pass, local_read}
use Rattle.reclaim_ibr.proofs.epochs.read_epoch.Goals as goal

pub returns-clause-local : goal.returns-clause-local
returns-clause-local g c = let p = c.args.pass.now in let q = c.load_epoch.new.pass in local_pass c.args.local.now p q c.load_epoch.ensures.pass
    (local_read c.args.local.now (is_inside p) (since p) (view p) (view q) c.load_epoch.result (epoch_is_read (view p) (view q) c.load_epoch.result c.requires.local.settled c.load_epoch.ensures.loaded) c.requires.local)
