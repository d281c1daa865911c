use Rattle.std.proofs.Common.{◌+◌, ◌*◌, ℕ, ap, ◌∙◌, arith}
use Rattle.record_table.specs.Handles.{view}
use Rattle.debra_facts.specs.Debra.{debra}
use Rattle.reclaim_api.proofs.Words.{own_stored}
use Rattle.reclaim_debra.proofs.entering.store_own.Goals as goal

pub returns-clause-stored : goal.returns-clause-stored
returns-clause-stored g c = own_stored debra (view c.args.pass.now) (view c.store_control.new.pass) c.announcement.result 0 c.args.value (c.announcement.ensures ∙ ap (λ (n : ℕ). 20 + (4 * n + 0)) c.caller.ensures) c.requires.counted (omega arith) c.store_control.ensures.step
