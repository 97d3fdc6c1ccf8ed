use Rattle.std.proofs.Common.{rules}
use Rattle.oci_layers.specs.Encodings.{is_same_type}
use Rattle.oci_layers.proofs.encoding.is_same_type.Goals as goal

pub returns : goal.returns
unfolding is_same_type
returns c = search rules
