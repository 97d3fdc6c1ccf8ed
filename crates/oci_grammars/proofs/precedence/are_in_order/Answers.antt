-- The order is that of the bytes.
use Rattle.oci_grammars.proofs.VersionOrder.{in_order_by}
use Rattle.oci_grammars.proofs.precedence.are_in_order.Goals as goal

pub returns : goal.returns
returns c =
    in_order_by c.args.first.now c.args.second.now c.as_bytes-one.result.now c.as_bytes-other.result.now c.is_semver.result c.is_semver-2.result c.is_gt-higher.result c.compare.result
    c.as_bytes-one.ensures.value c.as_bytes-other.ensures.value c.is_semver.ensures c.is_semver-2.ensures c.compare.ensures c.is_gt-higher.ensures
