use Rattle.std.proofs.Common.{ℕ, ◌<◌}
use Rattle.oci_verify.proofs.Layouts.{IsReachedAt}
use Rattle.std.specs.BTreeSet.{contains_text}
use Rattle.oci_verify.proofs.unreferenced.are_reached.Given as goal

abbrev pub invariant-each : goal.invariant-each
invariant-each l = (k : ℕ) → k < l.place → IsReachedAt l.listed (contains_text l.reached) k
