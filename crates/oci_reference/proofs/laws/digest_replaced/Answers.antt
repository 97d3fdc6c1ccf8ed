-- The laws are `replaced_accepted` and `replaced_same`.
use Rattle.oci_reference.proofs.Replaced.{replaced_accepted, replaced_same}
use Rattle.oci_reference.proofs.laws.digest_replaced.Goals as goal

pub returns-clause-accepted : goal.returns-clause-accepted
returns-clause-accepted c = replaced_accepted

pub returns-clause-alone : goal.returns-clause-alone
returns-clause-alone c = replaced_same
