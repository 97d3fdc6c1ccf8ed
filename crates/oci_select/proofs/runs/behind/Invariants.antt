use Rattle.std.proofs.Common.{◌≡◌, drop}
use Rattle.oci_select.specs.Normal.{lower}
use Rattle.oci_select.specs.Runs.{behind}
use Rattle.oci_select.specs.Told.{texts}
use Rattle.oci_select.proofs.runs.behind.Given as goal

-- what follows the variant follows it in the rest
abbrev pub invariant-loop-i : goal.invariant-loop-i
invariant-loop-i l = behind (texts l.variants) (lower l.variant) ≡ behind (texts (drop l.i l.variants)) (lower l.variant)
