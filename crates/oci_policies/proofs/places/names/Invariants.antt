use Rattle.std.proofs.Common.{◌≡◌, drop}
use Rattle.oci_rules.specs.Tables.{texts_of}
use Rattle.oci_policies.specs.Places.{name_of}
use Rattle.oci_policies.specs.Values.{behind, all}
use Rattle.oci_policies.proofs.places.names.Given as goal

-- what was read, and what is still to be read, is all
abbrev pub invariant-loop-part : goal.invariant-loop-part
invariant-loop-part l = behind (texts_of l.names.items) (all name_of (texts_of (drop l.part-index l.part-items))) ≡ all name_of (texts_of l.parts.items)
