use Rattle.std.proofs.Common.{◌≡◌, ◌++◌, Some, take, map}
use Rattle.std.specs.List.{filter}
use Rattle.oci_rules.specs.Tables.{told}
use Rattle.oci_findings.specs.Findings.{breach}
use Rattle.oci_findings.specs.Checks.{is_error}
use Rattle.oci_findings.proofs.examine.add_counted.Given as goal

abbrev pub invariant-loop-item : goal.invariant-loop-item
invariant-loop-item l =
    map breach l.found.items ≡ map breach l.initial.found.items ++ map Some (filter (λ x. is_error l.asked x.0) (map told (take l.item-index l.listed.items)))
