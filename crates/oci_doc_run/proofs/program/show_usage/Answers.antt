use Rattle.std.proofs.Common.{subst}
use Rattle.oci_json.specs.Engines.{AppendsSome}
use Rattle.oci_doc_run.proofs.Begun.{begun}
use Rattle.oci_doc_run.proofs.program.show_usage.Goals as goal

pub returns : goal.returns
returns g c =
    subst (AppendsSome (g.E.Write.contents c.args.errors.now) (g.E.Write.contents c.write_text.new.writer)) c.as_bytes.ensures.value
    (begun c.write_text.result _ _ c.as_bytes.result.now c.write_text.ensures.ok c.write_text.ensures.err)
