use Rattle.std.proofs.Common.{ap, ◌∙◌}
use Rattle.oci_findings.specs.FoundKind.{by_file_name, first_of}
use Rattle.oci_findings.proofs.detect.kind_without_type.Goals as goal

pub returns-in-Some : goal.returns-in-Some
returns-in-Some g c = λ d holds. ap (λ o. first_of o (by_file_name c.args.name.now d)) (c.in-Some.ensures d holds)

pub returns-in-None : goal.returns-in-None
returns-in-None g c = λ d holds. c.kind_by_file_name.ensures d holds ∙ ap (λ o. first_of o (by_file_name c.args.name.now d)) (c.in-None.ensures d holds)
