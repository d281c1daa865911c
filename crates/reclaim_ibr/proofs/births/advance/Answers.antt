use Rattle.std.proofs.Common.{arith}
use Rattle.record_table.specs.Handles.{view, since, is_inside}
use Rattle.reclaim_api.specs.StepForms.{epoch_exchange}
use Rattle.reclaim_api.proofs.Words.{epoch_tried}
use Rattle.reclaim_ibr.proofs.Locals.{local_pass, local_made}
use Rattle.reclaim_ibr.proofs.Bearing.{advanced_try, advanced_last}
use Rattle.reclaim_ibr.proofs.births.advance.Goals as goal

pub returns-then-epoch-lt-LAST_EPOCH-clause-local : goal.returns-then-epoch-lt-LAST_EPOCH-clause-local
returns-then-epoch-lt-LAST_EPOCH-clause-local g c = let p = c.read_epoch-epoch.new.pass in let q = c.exchange_control-outcome.new.pass in let e = c.read_epoch-epoch.result in
    let tried = epoch_tried (view p) (view q) e c.exchange_control-outcome.result c.exchange_control-outcome.ensures.step in
    local_pass c.args.local.now p q c.exchange_control-outcome.ensures.pass (local_made c.args.local.now (is_inside p) (since p) (view p) (view q) (epoch_exchange (view p).own e tried.0) tried.1 c.read_epoch-epoch.ensures.local)

pub returns-then-epoch-lt-LAST_EPOCH-clause-advanced : goal.returns-then-epoch-lt-LAST_EPOCH-clause-advanced
returns-then-epoch-lt-LAST_EPOCH-clause-advanced g c = let p = c.read_epoch-epoch.new.pass in let q = c.exchange_control-outcome.new.pass in let e = c.read_epoch-epoch.result in
    let tried = epoch_tried (view p) (view q) e c.exchange_control-outcome.result c.exchange_control-outcome.ensures.step in
    advanced_try (view c.args.pass.now) (view p) (view q) e tried.0 c.read_epoch-epoch.ensures.read c.if-epoch-lt-LAST_EPOCH.true tried.1

pub returns-else-epoch-lt-LAST_EPOCH-clause-advanced : goal.returns-else-epoch-lt-LAST_EPOCH-clause-advanced
returns-else-epoch-lt-LAST_EPOCH-clause-advanced g c = advanced_last (view c.args.pass.now) (view c.read_epoch-epoch.new.pass) c.read_epoch-epoch.result c.read_epoch-epoch.ensures.read (let high = c.if-epoch-lt-LAST_EPOCH.false in omega arith)
