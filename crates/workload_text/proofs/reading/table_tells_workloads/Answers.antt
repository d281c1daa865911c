use Rattle.workload_text.proofs.Admitted.{workload_follows}
use Rattle.workload_text.proofs.Unparsed.{lines_of_workload}
use Rattle.workload_text.proofs.reading.table_tells_workloads.Goals as goal

pub returns-clause-admitted : goal.returns-clause-admitted
returns-clause-admitted c = λ plan h. (workload_follows plan h).0

pub returns-clause-ended : goal.returns-clause-ended
returns-clause-ended c = λ plan h. (workload_follows plan h).1

pub returns-clause-lawful : goal.returns-clause-lawful
returns-clause-lawful c = lines_of_workload
