use Rattle.std.proofs.Common.{ap, ◌∙◌}
use Rattle.oci_findings.specs.FoundKind.{by_file_name, by_members, by_type_or, first_of, found_kind}
use Rattle.oci_findings.proofs.detect.detect.Goals as goal

pub returns-in-Some : goal.returns-in-Some
unfolding found_kind
returns-in-Some g c = λ d holds. c.kind_of_media_type.ensures ∙ ap (λ o. by_type_or o (first_of (by_members d) (by_file_name c.args.name.now d))) (c.in-Some.ensures d holds)

pub returns-in-None : goal.returns-in-None
unfolding found_kind
returns-in-None g c = λ d holds. c.kind_without_type.ensures d holds ∙ ap (λ o. by_type_or o (first_of (by_members d) (by_file_name c.args.name.now d))) (c.in-None.ensures d holds)
