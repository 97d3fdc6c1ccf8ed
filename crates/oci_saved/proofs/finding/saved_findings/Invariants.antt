use Rattle.std.proofs.Common.{◌≡◌, map, take}
use Rattle.oci_findings.specs.Findings.{rule_name}
use Rattle.oci_saved.specs.Rules.{saved_rule_name}
use Rattle.oci_saved.proofs.finding.saved_findings.Given as goal

abbrev pub invariant-each : goal.invariant-each
invariant-each l = map (λ f. rule_name f.cause) l.found.items ≡ map saved_rule_name (take l.fault-index l.faults)
