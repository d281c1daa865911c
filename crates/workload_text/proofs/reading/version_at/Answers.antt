use Rattle.std.proofs.Common.{codes, arith, refl}
use Rattle.workload_text.specs.declared.error.WorkloadError.TheVariants.{Header}
use Rattle.workload_text.specs.Following.{at_start}
use Rattle.workload_text.proofs.Heads.{refused_line, no_version, only_zero}
use Rattle.workload_text.proofs.reading.version_at.Goals as goal

pub returns-then-version-eq0-clause-refused : goal.returns-then-version-eq0-clause-refused
returns-then-version-eq0-clause-refused c =
    let text = c.in-Some.text.now in
    let number = c.in-Some-number_behind.version in
    refused_line at_start 1 c.args.bytes.now text c.in-Some.rest.now (Header 1) c.in-Some.ensures.found.0 c.in-Some.ensures.found.1
    (no_version text (λ n le some. only_zero (codes "setbench") text number n c.if-version-eq0.true c.in-Some-number_behind.ensures.found.1 some (omega arith))) refl
