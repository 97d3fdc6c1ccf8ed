use Rattle.std.proofs.Common.{◌≡◌, take, map}
use Rattle.oci_model.specs.Plain.{plains}
use Rattle.oci_linux.specs.Defaults.{new_namespace}
use Rattle.oci_linux.specs.LinuxNamespace.{linux_namespace_plain}
use Rattle.oci_linux.proofs.defaults.namespaces_of.Given as goal

abbrev pub invariant-loop-typ : goal.invariant-loop-typ
invariant-loop-typ l = plains (map linux_namespace_plain l.listed.items) ≡ plains (map new_namespace (take l.typ-index l.types))
