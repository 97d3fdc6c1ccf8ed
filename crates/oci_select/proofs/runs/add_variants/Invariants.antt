use Rattle.std.proofs.Common.{◌≡◌, ◌++◌, map, take}
use Rattle.oci_select.specs.Normal.{lower}
use Rattle.oci_select.specs.Runs.{of_variants}
use Rattle.oci_select.specs.Told.{texts, told}
use Rattle.oci_select.proofs.runs.add_variants.Given as goal

-- the platforms of the variants so far are added
abbrev pub invariant-loop-variant : goal.invariant-loop-variant
invariant-loop-variant l = map told l.list.items ≡ map told l.initial.list.items ++ of_variants (lower l.os) (lower l.architecture) (texts (take l.variant-index l.variants))
