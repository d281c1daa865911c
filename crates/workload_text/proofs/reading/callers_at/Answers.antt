use Rattle.std.proofs.Common.{codes, refl}
use Rattle.workload_text.specs.declared.error.WorkloadError.TheVariants.{Callers}
use Rattle.workload_text.specs.Following.{behind_version}
use Rattle.workload_text.proofs.Heads.{refused_line, no_callers, only_zero}
use Rattle.workload_text.proofs.reading.callers_at.Goals as goal

pub returns-then-callers-eq0-clause-refused : goal.returns-then-callers-eq0-clause-refused
returns-then-callers-eq0-clause-refused c =
    let text = c.in-Some.text.now in
    let number = c.in-Some-number_behind.callers in
    refused_line (behind_version c.args.version) 2 c.args.bytes.now text c.in-Some.rest.now (Callers 2) c.in-Some.ensures.found.0 c.in-Some.ensures.found.1
    (no_callers c.args.version text (λ n le some. only_zero (codes "callers") text number n c.if-callers-eq0.true c.in-Some-number_behind.ensures.found.1 some le)) refl
