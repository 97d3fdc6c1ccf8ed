use Rattle.std.specs.Fmt.{digits}
use Rattle.oci_runtime.proofs.versions.version.Goals as goal

pub returns-clause-numbers : goal.returns-clause-numbers
unfolding digits
returns-clause-numbers c = c.in_ok-from_str.ensures.ok
