use lib.Utf8.{encode}
use Rattle.oci_findings.proofs.outline.branch_of.Goals as goal

pub returns-then-is_last : goal.returns-then-is_last
unfolding encode
returns-then-is_last c = rw c.if-is_last.true

pub returns-else-is_last : goal.returns-else-is_last
unfolding encode
returns-else-is_last c = rw c.if-is_last.false
