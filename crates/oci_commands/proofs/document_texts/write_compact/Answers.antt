use Rattle.std.proofs.Common.{◌≡◌, ◌++◌, Some, subst}
use Rattle.std.specs.Prelude.{IfErr, OnOk}
use Rattle.oci_json.specs.Engines.{IsNotNormalized, WritesDocument}
use Rattle.oci_base.specs.Refused.{IsSchema}
use Rattle.oci_commands.proofs.Forms.{no_form_of}
use Rattle.oci_commands.proofs.document_texts.write_compact.Goals as goal

pub returns-clause-ok : goal.returns-clause-ok
returns-clause-ok c =
    subst (λ s. OnOk c.normalize_bytes.result (WritesDocument s (Some c.args.bytes.now) (λ t. c.normalize_bytes.new.out.items ≡ c.args.out.now.items ++ t))) c.schema.ensures.shape c.normalize_bytes.ensures.ok

pub returns-clause-none : goal.returns-clause-none
returns-clause-none c =
    no_form_of c.normalize_bytes.result c.args.kind c.args.bytes.now c.normalize_bytes.ensures.json
    (subst (λ s. IfErr c.normalize_bytes.result (λ e. IsSchema e → IsNotNormalized s c.args.bytes.now)) c.schema.ensures.shape c.normalize_bytes.ensures.schema)
