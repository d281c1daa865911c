use Rattle.std.proofs.Common.{refl}
use Rattle.workload_text.proofs.Steps.{caller_progress}
use Rattle.workload_text.proofs.progress.Progress.next_caller.Goals as goal

pub returns-clause-progress : goal.returns-clause-progress
returns-clause-progress c = λ bytes rest behind h m text.
    caller_progress bytes rest behind c.args.self _ h m text c.in_ok-push.ensures.items c.in_ok-push-2.ensures.items c.new.ensures.items c.new-2.ensures.items refl refl
