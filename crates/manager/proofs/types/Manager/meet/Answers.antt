use Rattle.std.proofs.Common.{◌≤◌, length, length-append, ap, arith}
use Rattle.record_memory.specs.declared.books.View.{View}
use Rattle.record_table.specs.Handles.{view}
use Rattle.manager.proofs.Stay.{rests_still}
use Rattle.manager.proofs.types.Manager.meet.Goals as goal

pub returns-clause-from_caller : goal.returns-clause-from_caller
returns-clause-from_caller g c = let a = c.args.from.now in let e = c.meet.ensures in rests_still g.R.Scheme.is_local a.pass c.meet.new.from a.local a.free a.spare a.moved e.from g.met.R.Scheme.local_stays (ap (λ (v : View). v.own) e.unchanged) (omega (arith, ap (λ (v : View). length v.front) e.unchanged)) c.requires.callers.0

pub returns-clause-into_caller : goal.returns-clause-into_caller
returns-clause-into_caller g c = let a = c.args.into.now in let e = c.meet.ensures in rests_still g.R.Scheme.is_local a.pass c.meet.new.into a.local a.free a.spare a.moved e.into g.met.R.Scheme.local_stays (ap (λ (v : View). v.own) e.rest) (omega (arith, ap length e.own.1, length-append (view a.pass).front e.own.0)) c.requires.callers.1
