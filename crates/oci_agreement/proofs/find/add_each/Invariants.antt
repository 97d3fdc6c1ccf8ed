use Rattle.std.proofs.Common.{◌≡◌, ◌++◌, drop, map}
use Rattle.oci_agreement.specs.Images.{image_of}
use Rattle.oci_agreement.specs.Listed.{told_of, told_each}
use Rattle.oci_agreement.proofs.find.add_each.Given as goal

-- what was told, and what is still to be told, is all
abbrev pub invariant-loop-agreement : goal.invariant-loop-agreement
invariant-loop-agreement l =
    map told_of l.broken.items ++ told_each (drop l.agreement-index l.agreements) (image_of l.image)
    ≡ map told_of l.initial.broken.items ++ told_each l.agreements (image_of l.image)
