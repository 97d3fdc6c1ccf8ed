-- The paths are compared by their bytes.
use Rattle.oci_grammars.proofs.NestedPaths.{inside_by}
use Rattle.oci_grammars.proofs.nesting.is_inside.Goals as goal

pub returns : goal.returns
returns c =
    inside_by c.args.other.now c.args.path.now c.as_bytes-other.result.now c.as_bytes-path.result.now c.is_inside_bytes.result c.as_bytes-other.ensures.value c.as_bytes-path.ensures.value
    c.is_inside_bytes.ensures
