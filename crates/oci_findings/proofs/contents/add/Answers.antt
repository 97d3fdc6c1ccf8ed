use Rattle.std.proofs.Common.{refl}
use Rattle.oci_findings.specs.Contents.{fact}
use Rattle.oci_findings.proofs.Facts.{pushed_one}
use Rattle.oci_findings.proofs.contents.add.Goals as goal

pub returns : goal.returns
returns c = pushed_one fact _ _ _ _ c.in_ok-push.ensures.items refl
