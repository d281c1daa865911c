use Rattle.std.proofs.Common.{arith}
use Rattle.record_table.specs.Handles.{view}
use Rattle.manager.proofs.ChainCounts.{free_is, spare_is, shown_below}
use Rattle.manager.proofs.types.Manager.counts.Goals as goal

pub returns : goal.returns
returns g c = let a = c.args.caller.now in let h = c.requires.caller.chains in let n = c.requires.caller.counts in let v = view a.pass in record {
  counts = record {
    drawn = n.drawn;
    reused = n.reused;
    retired = n.retired;
    freed = n.freed;
    limbo = λ below. (let r = n.retired in let f = n.freed in let x = shown_below v.own.moves.retired below in let l = n.limbo in let y = shown_below v.own.moves.freed (omega arith) in omega arith);
    free = free_is v a.free a.spare h.frees h.spares h.all;
    spare = spare_is v a.free a.spare h.frees h.spares h.all;
    spent = n.spent;
  };
}
