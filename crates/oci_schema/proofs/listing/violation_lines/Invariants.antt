use Rattle.std.proofs.Common.{◌≡◌, map, take, string_bytes}
use Rattle.oci_schema.specs.Lines.{lines}
use Rattle.oci_schema.specs.Violations.{reported}
use Rattle.oci_schema.proofs.listing.violation_lines.Given as goal

abbrev pub invariant-loop-violation : goal.invariant-loop-violation
invariant-loop-violation l = string_bytes l.text ≡ lines (map reported (take l.violation-index l.found))
