use Rattle.oci_select.proofs.Tables.{as_test}
use Rattle.oci_select.proofs.normal.is_name.Goals as goal

pub returns : goal.returns
returns c = as_test _ _ _ c.eq_ignore_ascii_case.ensures.test
