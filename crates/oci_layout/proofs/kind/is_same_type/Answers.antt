use Rattle.std.proofs.Common.{rules}
use Rattle.oci_layout.specs.Kinds.{is_same_type}
use Rattle.oci_layout.proofs.kind.is_same_type.Goals as goal

pub returns : goal.returns
unfolding is_same_type
returns c = search rules
