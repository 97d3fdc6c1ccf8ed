use Rattle.std.proofs.Common.{Some, subst}
use Rattle.oci_schema.specs.Shapes.{schema_shape}
use Rattle.oci_schema.specs.Canonical.{IsDocumentText, MakesText}
use Rattle.oci_schema.proofs.Documents.{where_known}
use Rattle.oci_schema.proofs.bytes.streams.text_from_reader.Goals as goal

pub returns-clause-makes : goal.returns-clause-makes
returns-clause-makes g c =
    let s = schema_shape (g.T.Records.shape_at c.args.records.now) c.args.schema.now in
    where_known (IsDocumentText s) (λ bytes text made. (made.0, tt, made.2, made.3)) s (g.R.Read.remaining c.args.reader) c.in_ok-bytes.bytes.items c.document_text.result c.in_ok-bytes.ensures.ok
    (subst (λ t. MakesText s (Some t) c.document_text.result) c.as_slice.ensures.value c.document_text.ensures.makes)
