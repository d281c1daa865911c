use Rattle.std.proofs.Common.{arith}
use Rattle.bench_core.proofs.Telling.{Tells-printed, status_is_no_fault}
use Rattle.bench_core.proofs.ending.conclude.Goals as goal

pub returns-in-Generated : goal.returns-in-Generated
returns-in-Generated g c =
    let printed = c.print_text-printed in
    let end = c.end_after-in-Generated.ensures in
    rw c.in-Generated.is (record {
      run = end.run;
      tells = Tells-printed g.K.Sink.got g.K.Sink.faults _ _ _ _ _ printed.result (rw c.in-Generated.is at c.requires) (λ same. omega (arith, same))
          (rw c.as_slice.ensures at printed.ensures.done) (rw c.as_slice.ensures at printed.ensures.part) printed.ensures.kept printed.ensures.counted end.done end.write_fault;
    })

pub returns-in-Played : goal.returns-in-Played
returns-in-Played g c =
    let printed = c.print_report-printed in
    let end = c.end_after-in-Played.ensures in
    rw c.in-Played.is (record {
      run = end.run;
      tells = Tells-printed g.K.Sink.got g.K.Sink.faults _ _ _ _ _ printed.result (λ none. cc) (status_is_no_fault c.in-Played.run') printed.ensures.done printed.ensures.part printed.ensures.kept printed.ensures.counted (rw c.status_of-status.ensures at end.done) end.write_fault;
    })

pub returns-in-Tried : goal.returns-in-Tried
returns-in-Tried g c =
    let printed = c.print_summary-printed in
    let end = c.end_after-in-Tried.ensures in
    rw c.in-Tried.is (record {
      run = end.run;
      tells = Tells-printed g.K.Sink.got g.K.Sink.faults _ _ _ _ _ printed.result (λ none. cc) (status_is_no_fault c.in-Tried.run') printed.ensures.done printed.ensures.part printed.ensures.kept printed.ensures.counted (rw c.status_of-status-in-Tried.ensures at end.done) end.write_fault;
    })
