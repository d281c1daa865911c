use Rattle.workload_gen.proofs.Lawful.{generated_is_workload}
use Rattle.workload_gen.proofs.generating.generate.Goals as goal

pub of-requires : goal.of-requires
of-requires c = rw c.in_ok-generated.ensures (generated_is_workload c.args.plan.now)
