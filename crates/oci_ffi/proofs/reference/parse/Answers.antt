use Rattle.std.proofs.Common.{sym, ◌∙◌}
use Rattle.oci_ffi.proofs.Accepted.{accepted_without_memory}
use Rattle.oci_ffi.proofs.reference.parse.Goals as goal

pub returns-in-Err-from_str-clause-accepted : goal.returns-in-Err-from_str-clause-accepted
returns-in-Err-from_str-clause-accepted c = λ h. accepted_without_memory _ c.in-Err-from_str.error (sym c.status_numbered.ensures ∙ h) (rw (← c.in-Ok.ensures.cases.0) c.in-Err-from_str.ensures.err)

pub returns-in-Err-from_str-clause-refused : goal.returns-in-Err-from_str-clause-refused
returns-in-Err-from_str-clause-refused c = λ h. (c.in-Err-from_str.error, c.status_numbered.ensures, rw (← c.in-Ok.ensures.cases.0) c.in-Err-from_str.ensures.err)
