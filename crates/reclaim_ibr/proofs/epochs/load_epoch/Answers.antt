use Rattle.record_table.specs.Handles.{view}
use Rattle.reclaim_ibr.proofs.Loads.{epoch_is_loaded}
use Rattle.reclaim_ibr.proofs.epochs.load_epoch.Goals as goal

pub returns-clause-loaded : goal.returns-clause-loaded
returns-clause-loaded g c = epoch_is_loaded (view c.args.pass.now) (view c.load_control.new.pass) c.load_control.result c.load_control.ensures.step c.requires.calm
