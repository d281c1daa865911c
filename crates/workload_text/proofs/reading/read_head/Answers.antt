use Rattle.std.proofs.Common.{◌∷◌, []}
use Rattle.std.proofs.lemmas.Result.{err_from_is_err_and}
use Rattle.workload_text.specs.Text.{version_line, callers_line}
use Rattle.workload_text.proofs.Heads.{refused_behind, spelled_first, spelled_two}
use Rattle.workload_text.proofs.reading.read_head.Goals as goal

pub returns-in_err-callers-clause-refused : goal.returns-in_err-callers-clause-refused
returns-in_err-callers-clause-refused c =
    let p = err_from_is_err_and c.from_residual-in_err-callers.result c.from_residual-in_err-callers.ensures.1 in
    let first = c.in_ok-version in
    rw (p.1, p.2) (refused_behind c.args.bytes.now first.rest.now (version_line first.version ∷ []) c.in_err-callers.field-0.0 (first.ensures.may, tt)
    (spelled_first (version_line first.version) c.args.bytes.now first.rest.now first.ensures.same) c.in_err-callers.ensures.refused)

pub returns-in_err-rest-clause-refused : goal.returns-in_err-rest-clause-refused
returns-in_err-rest-clause-refused c =
    let p = err_from_is_err_and c.from_residual-in_err-rest.result c.from_residual-in_err-rest.ensures.1 in
    let first = c.in_ok-version in
    let second = c.in_ok-callers in
    rw (p.1, p.2) (refused_behind c.args.bytes.now second.rest.now (version_line first.version ∷ callers_line second.callers ∷ []) c.in_err-rest.field-0.0 (first.ensures.may, (second.ensures.may, tt))
    (spelled_two (version_line first.version) (callers_line second.callers) c.args.bytes.now first.rest.now second.rest.now first.ensures.same second.ensures.same) c.in_err-rest.ensures.refused)
