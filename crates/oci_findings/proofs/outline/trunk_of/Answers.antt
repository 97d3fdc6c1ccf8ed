use lib.Utf8.{encode}
use Rattle.oci_findings.proofs.outline.trunk_of.Goals as goal

pub returns-else-is_last : goal.returns-else-is_last
unfolding encode
returns-else-is_last c = rw c.if-is_last.false
