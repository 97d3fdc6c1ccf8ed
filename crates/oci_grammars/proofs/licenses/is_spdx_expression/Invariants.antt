-- The pieces that are left lead where all of them do.
use Rattle.std.proofs.Common.{◌≡◌, ◌+◌, ◌≤◌, length}
use Rattle.std.specs.List.{fold}
use Rattle.oci_grammars.specs.DecidedLicenses.{next, begun}
use Rattle.oci_grammars.specs.Licenses.{kinds}
use Rattle.oci_grammars.proofs.licenses.is_spdx_expression.Given as goal

abbrev pub invariant-loop-rest : goal.invariant-loop-rest
invariant-loop-rest l = record { leads : fold next l.progress (kinds l.rest) ≡ fold next begun (kinds l.text); shallow : l.progress.depth + length l.rest ≤ length l.text }

abbrev pub decreases-loop-rest : goal.decreases-loop-rest
decreases-loop-rest l = length l.rest
