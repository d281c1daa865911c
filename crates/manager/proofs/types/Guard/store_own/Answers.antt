use Rattle.row_words.specs.Packing.{packed_number}
use Rattle.record_table.specs.Handles.{view}
use Rattle.manager.proofs.Dids.{store_does}
use Rattle.manager.proofs.KeepLocks.{store_locks}
use Rattle.manager.proofs.types.Guard.store_own.Goals as goal

pub returns-clause-did : goal.returns-clause-did
returns-clause-did g c = let e = c.store_own.ensures in store_does _ _ c.args.own.now c.args.word _ c.requires.own e.step e.stock

pub returns-clause-locks : goal.returns-clause-locks
returns-clause-locks g c = store_locks (view c.args.self.now.caller.now.pass) (view c.store_own.new.caller.pass) c.args.own.now.index c.args.word (packed_number c.args.own.now.generation c.args.payload) c.store_own.ensures.step
