use Rattle.std.proofs.lemmas.Result.{err_from_is_err_and}
use Rattle.oci_doc_run.proofs.Refused.{pin_refused, keeps_itself}
use Rattle.oci_doc_run.proofs.pinning.pinned.Goals as goal

pub returns-in_err-line-clause-err : goal.returns-in_err-line-clause-err
returns-in_err-line-clause-err g c =
    let p = err_from_is_err_and c.from_residual-in_err-line.result c.from_residual-in_err-line.ensures.1 in
    let told = c.in_err-line.ensures in
    rw (p.1, p.2) (pin_refused c.args.text.now _ _ _ _ told.json told.schema told.kind (keeps_itself _))
