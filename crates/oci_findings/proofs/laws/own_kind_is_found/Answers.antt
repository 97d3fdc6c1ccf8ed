use Rattle.oci_findings.proofs.OwnKinds.{known, found, always}
use Rattle.oci_findings.proofs.laws.own_kind_is_found.Goals as goal

pub returns-clause-known : goal.returns-clause-known
returns-clause-known c = known

pub returns-clause-found : goal.returns-clause-found
returns-clause-found c = found

pub returns-clause-always : goal.returns-clause-always
returns-clause-always c = always
