use Rattle.std.proofs.Common.{ap, ◌∙◌}
use Rattle.oci_findings.specs.Annotations.{from_place}
use Rattle.oci_findings.proofs.annotations.behind_step.Goals as goal

pub returns-in-Some : goal.returns-in-Some
returns-in-Some c = c.behind.ensures ∙ ap (λ o. from_place o c.args.pointer.now) c.in-Some.ensures

pub returns-in-None : goal.returns-in-None
returns-in-None c = ap (λ o. from_place o c.args.pointer.now) c.in-None.ensures
