use Rattle.std.proofs.Common.{◌≡◌, ◌∙◌, ap, subst}
use Rattle.serde_json.specs.View.{view}
use Rattle.oci_schemas.specs.Kinds.{shape_of}
use Rattle.oci_commands.specs.Kept.{kept}
use Rattle.oci_commands.proofs.document_texts.kept_value.Goals as goal

pub returns-clause-ok : goal.returns-clause-ok
returns-clause-ok c =
    let (p, means, is) = c.in_ok-canonical.ensures.ok in
    let read = view c.in_ok-read.read in (
      read,
      p,
      c.in_ok-read.ensures.ok,
      means,
      subst (λ s. view c.in_ok-whole.whole ≡ kept s read (view c.in_ok-canonical.canonical)) c.schema.ensures.shape c.in_ok-whole.ensures ∙ ap (kept (shape_of c.args.kind) read) is,
    )
