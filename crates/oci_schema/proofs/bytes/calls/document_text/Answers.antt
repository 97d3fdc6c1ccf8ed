use Rattle.std.proofs.Common.{subst}
use Rattle.std.specs.Prelude.{IfSome}
use Rattle.serde_json.specs.Data.{Data}
use Rattle.oci_json.specs.Engines.{ReadsAs}
use Rattle.oci_schema.specs.Canonical.{IsNormalText}
use Rattle.oci_schema.specs.Shapes.{schema_shape}
use Rattle.oci_schema.proofs.Documents.{document_text}
use Rattle.oci_schema.proofs.bytes.calls.document_text.Goals as goal

pub returns-in-Some-clause-makes : goal.returns-in-Some-clause-makes
returns-in-Some-clause-makes g c =
    let s = schema_shape (g.T.Records.shape_at c.args.records.now) c.args.schema.now in
    let k = subst (λ o. IfSome o (λ text. (d : Data) × ReadsAs c.args.bytes.now d × IsNormalText s d text.items)) c.in-Some.is c.in_ok-found.ensures in
    record {
      ok = document_text s c.args.bytes.now k.0 c.in-Some.text.items c.requires k.1 k.2;
      json = tt;
      schema = tt;
    }
