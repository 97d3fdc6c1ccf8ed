use Rattle.std.proofs.Common.{arith}
use Rattle.oci_schema.proofs.Slots.{place_within}
use Rattle.oci_schema.proofs.bytes.object.put.Goals as goal

pub insert-requires : goal.insert-requires
insert-requires c = let within = place_within _ _ _ c.in_ok-at.ensures in omega (arith, c.as_slice.ensures.len)
