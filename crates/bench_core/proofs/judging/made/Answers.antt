use Rattle.bench_core.proofs.Results.{IfOk-map}
use Rattle.bench_core.proofs.judging.made.Goals as goal

pub returns : goal.returns
returns c = IfOk-map c.generate.result (λ workload is. (c.plan_of.result, c.plan_of.ensures, is)) c.generate.ensures
