use Rattle.std.proofs.Common.{ap, ◌∙◌, ◌++◌, ◌∷◌, [], map}
use Rattle.oci_findings.specs.Findings.{breach}
use Rattle.oci_findings.proofs.Each.{map_both}
use Rattle.oci_findings.proofs.examine.add_rule_finding.Goals as goal

pub returns : goal.returns
returns c = ap (map breach) c.in_ok-push.ensures.items ∙ map_both breach c.args.found.now.items c.in_ok-finding.finding ∙ ap (λ q. map breach c.args.found.now.items ++ q ∷ []) c.in_ok-finding.ensures
