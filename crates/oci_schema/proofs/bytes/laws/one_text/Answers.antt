use Rattle.oci_schema.proofs.Documents.{same_text}
use Rattle.oci_schema.proofs.bytes.laws.one_text.Goals as goal

pub returns : goal.returns
returns c = λ s bytes p q a b. same_text s bytes p q a b
