use Rattle.std.proofs.Common.{subst}
use Rattle.std.proofs.lemmas.Result.{err_from_is_err_and}
use Rattle.std.specs.Io.KnownBytes.{Appends}
use Rattle.oci_json.specs.Engines.{AppendsSome}
use Rattle.oci_schema.proofs.Means.{write_failed}
use Rattle.oci_schema.proofs.bytes.pretty.normalize_pretty.Goals as goal

pub returns-in_err-write_text : goal.returns-in_err-write_text
returns-in_err-write_text g c =
    let made = c.in_ok-text.ensures.makes.ok in
    let old = g.W.Write.contents c.args.writer.now in
    let new = g.W.Write.contents c.write_text.new.writer in
    let p = err_from_is_err_and c.from_residual-in_err-write_text.result c.from_residual-in_err-write_text.ensures.1 in
    rw (p.1, p.2) (write_failed _ _ _ _ _ _ tt (made.0, made.1, (c.in_ok-text.text.items, made.2, subst (AppendsSome old new) c.as_slice.ensures.value c.in_err-write_text.ensures.err)))

pub returns : goal.returns
returns g c =
    let made = c.in_ok-text.ensures.makes.ok in
    let old = g.W.Write.contents c.args.writer.now in
    let new = g.W.Write.contents c.write_text.new.writer in
    record {
      ok = (made.0, made.1, (c.in_ok-text.text.items, made.2, subst (Appends old new) c.as_slice.ensures.value c.in_ok-write_text.ensures.ok));
      json = tt;
      schema = tt;
      begun = tt;
      unwritten = tt;
      kind = tt;
    }
