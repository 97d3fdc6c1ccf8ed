use Rattle.std.proofs.Common.{◌≡◌, Some, take, map}
use Rattle.std.specs.List.{filter, flat_map}
use Rattle.serde_json.specs.View.{view}
use Rattle.oci_rules.specs.Listed.{all_broken}
use Rattle.oci_rules.specs.Tables.{platform_of}
use Rattle.oci_findings.specs.Findings.{breach}
use Rattle.oci_findings.specs.Checks.{is_error}
use Rattle.oci_findings.proofs.Counted.{rules_in}
use Rattle.oci_findings.proofs.examine.findings_by.Given as goal

abbrev pub invariant-loop-book : goal.invariant-loop-book
invariant-loop-book l =
    map breach l.found.items
    ≡ map Some (filter (λ x. is_error l.asked x.0) (all_broken (flat_map rules_in (take l.book-index l.book-items)) (platform_of l.platform) (view l.value)))
