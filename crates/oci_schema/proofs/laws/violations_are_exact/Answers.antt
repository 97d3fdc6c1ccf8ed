use Rattle.std.proofs.Common.{[]}
use Rattle.oci_schema.proofs.Complete.{is_listed}
use Rattle.oci_schema.proofs.Sound.{listed_is}
use Rattle.oci_schema.proofs.laws.violations_are_exact.Goals as goal

pub returns : goal.returns
returns c = λ s d x. (listed_is s [] d x, is_listed s [] d x)
