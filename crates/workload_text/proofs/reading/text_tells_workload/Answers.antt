use Rattle.workload_text.proofs.Laws.{one_workload}
use Rattle.workload_text.proofs.reading.text_tells_workload.Goals as goal

pub returns : goal.returns
returns c = one_workload
