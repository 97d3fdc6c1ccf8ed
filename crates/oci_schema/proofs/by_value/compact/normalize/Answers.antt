use Rattle.std.proofs.Common.{ap, ◌∙◌, subst}
use Rattle.std.proofs.lemmas.Result.{err_from_is_err_and}
use Rattle.std.specs.Io.KnownBytes.{Appends}
use Rattle.serde_json.specs.View.{view}
use Rattle.serde_json.specs.Written.{compact_text}
use Rattle.oci_json.specs.Engines.{AppendsSome}
use Rattle.oci_json.proofs.Texts.{none_in, read_back}
use Rattle.oci_schema.specs.Shapes.{schema_shape}
use Rattle.oci_schema.proofs.Means.{write_failed}
use Rattle.oci_schema.proofs.by_value.compact.normalize.Goals as goal

pub returns-in_err-write_text-clause-normalizes : goal.returns-in_err-write_text-clause-normalizes
returns-in_err-write_text-clause-normalizes g c =
    let made = c.in_ok-normal.ensures.ok in
    let whole = none_in (schema_shape (g.T.Records.shape_at c.args.records.now) c.args.schema.now) made.0 (view c.in_ok-normal.normal) made.3 made.2 in
    let old = g.W.Write.contents c.args.writer.now in
    let new = g.W.Write.contents c.write_text.new.writer in
    let p = err_from_is_err_and c.from_residual-in_err-write_text.result c.from_residual-in_err-write_text.ensures.1 in
    rw (p.1, p.2) (write_failed _ _ _ _ _ _ tt (made.0, made.1, subst (AppendsSome old new) (c.as_bytes.ensures.value ∙ c.in_ok-text.ensures.text whole ∙ ap compact_text made.3) c.in_err-write_text.ensures.err))

pub returns-clause-normalizes : goal.returns-clause-normalizes
returns-clause-normalizes g c =
    let made = c.in_ok-normal.ensures.ok in
    let whole = none_in (schema_shape (g.T.Records.shape_at c.args.records.now) c.args.schema.now) made.0 (view c.in_ok-normal.normal) made.3 made.2 in
    let old = g.W.Write.contents c.args.writer.now in
    let new = g.W.Write.contents c.write_text.new.writer in
    record {
      ok = (made.0, made.1, subst (Appends old new) (c.as_bytes.ensures.value ∙ c.in_ok-text.ensures.text whole ∙ ap compact_text made.3) c.in_ok-write_text.ensures.ok);
      json = tt;
      schema = tt;
      begun = tt;
      unwritten = tt;
      kind = tt;
    }

pub returns-clause-reads_back : goal.returns-clause-reads_back
returns-clause-reads_back g c =
    let made = c.in_ok-normal.ensures.ok in
    let text = c.in_ok-text.ensures in
    (made.0, made.1, read_back (schema_shape (g.T.Records.shape_at c.args.records.now) c.args.schema.now) made.0 (view c.in_ok-normal.normal) _ made.3 made.2 text.text text.reads_back)
