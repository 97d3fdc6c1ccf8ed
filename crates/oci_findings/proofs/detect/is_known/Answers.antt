use Rattle.std.proofs.Common.{ap, ◌∙◌}
use Rattle.std.specs.List.{list_all, list_any}
use Rattle.oci_findings.specs.FoundKind.{has_member, is_known}
use Rattle.oci_findings.proofs.FoundKinds.{is_known_if, is_known_not}
use Rattle.oci_findings.proofs.detect.is_known.Goals as goal

pub returns-then-has_all : goal.returns-then-has_all
unfolding is_known
returns-then-has_all g c = λ d holds.
    is_known_if c.has_all.result c.has_any.result _ _ c.if-has_all.true (c.has_all.ensures d holds ∙ ap (list_all (has_member d)) c.marks_of.ensures)
    (c.has_any.ensures d holds ∙ ap (list_any (has_member d)) c.foreign_marks_of.ensures)

pub returns-else-has_all : goal.returns-else-has_all
unfolding is_known
returns-else-has_all g c = λ d holds. is_known_not c.has_all.result _ _ c.if-has_all.false (c.has_all.ensures d holds ∙ ap (list_all (has_member d)) c.marks_of.ensures)
