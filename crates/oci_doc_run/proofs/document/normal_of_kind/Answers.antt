use Rattle.std.proofs.Common.{subst}
use Rattle.std.specs.Io.KnownBytes.{Appends}
use Rattle.oci_json.specs.Engines.{WritesDocument}
use Rattle.oci_doc_run.proofs.document.normal_of_kind.Goals as goal

pub returns-clause-ok : goal.returns-clause-ok
returns-clause-ok g c =
    let input = g.R.Read.remaining c.args.reader.now in
    let old = g.W.Write.contents c.args.writer.now in
    let new = g.W.Write.contents c.normalize.new.writer in
    subst (λ s. WritesDocument s input (Appends old new)) c.schema-schema.ensures.shape c.in_ok-normalize.ensures.normalizes.ok
