use Rattle.oci_schema.proofs.Texts.{digest_same}
use Rattle.oci_schema.proofs.bytes.scalar.is_digest_value.Goals as goal

pub returns : goal.returns
returns c = digest_same c.args.text.now c.is_digest.result c.is_digest.ensures
