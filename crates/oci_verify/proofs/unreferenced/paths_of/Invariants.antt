use Rattle.std.proofs.Common.{take}
use Rattle.std.specs.BTreeSet.{contains_text}
use Rattle.oci_verify.specs.Layouts.{ArePathsOf}
use Rattle.oci_verify.proofs.unreferenced.paths_of.Given as goal

abbrev pub invariant-each : goal.invariant-each
invariant-each l = ArePathsOf (take l.claim-index l.walk.claims.items) (contains_text l.paths)
