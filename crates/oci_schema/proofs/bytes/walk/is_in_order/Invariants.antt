use Rattle.std.proofs.Common.{length}
use Rattle.oci_schema.proofs.bytes.walk.is_in_order.Given as goal

abbrev pub decreases-each_member : goal.decreases-each_member
decreases-each_member l = length l.rest
