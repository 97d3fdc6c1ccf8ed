use Rattle.std.proofs.Common.{◌≡◌, map, take}
use Rattle.oci_schema.specs.Violations.{reported}
use Rattle.oci_ffi.specs.Fields.{violation_list}
use Rattle.oci_ffi.proofs.fields.list_violations.Given as goal

abbrev pub invariant-loop-violation : goal.invariant-loop-violation
invariant-loop-violation l = l.fields.items ≡ violation_list (map reported (take l.violation-index l.found))
