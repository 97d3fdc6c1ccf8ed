use Rattle.oci_findings.specs.Outlines.{child_entry}
use Rattle.oci_findings.proofs.Facts.{pushed_one}
use Rattle.oci_findings.proofs.outline.add_child.Goals as goal

pub returns : goal.returns
returns c = pushed_one child_entry _ _ _ _ c.in_ok-push.ensures.items c.in_ok-child.ensures
