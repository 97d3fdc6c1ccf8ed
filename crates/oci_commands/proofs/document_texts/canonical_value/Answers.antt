use Rattle.std.proofs.Common.{◌≡◌, subst}
use Rattle.std.specs.Prelude.{IfErr, IfOk}
use Rattle.std.proofs.lemmas.Result.{IfOk-weaker}
use Rattle.serde_json.specs.View.{view}
use Rattle.oci_base.specs.Refused.{IsSchema}
use Rattle.oci_json.specs.Engines.{IsNotNormalized, MeansBytes}
use Rattle.oci_model.specs.Plain.{Plain}
use Rattle.oci_model.specs.Value.{value as json_of}
use Rattle.oci_model.specs.Writable.{Writable}
use Rattle.oci_commands.proofs.Forms.{no_form_of}
use Rattle.oci_commands.proofs.document_texts.canonical_value.Goals as goal

pub returns-clause-ok : goal.returns-clause-ok
returns-clause-ok c =
    IfOk-weaker c.normal_value_from_reader.result _ _ (λ v made. let (p, means, writable, is) = made in (p, means, is))
    (subst (λ s. IfOk c.normal_value_from_reader.result (λ v. (p : Plain) × MeansBytes s c.args.bytes.now p × Writable s p × (view v ≡ json_of s p))) c.schema.ensures.shape c.normal_value_from_reader.ensures.ok)

pub returns-clause-none : goal.returns-clause-none
returns-clause-none c =
    no_form_of c.normal_value_from_reader.result c.args.kind c.args.bytes.now c.normal_value_from_reader.ensures.json
    (subst (λ s. IfErr c.normal_value_from_reader.result (λ e. IsSchema e → IsNotNormalized s c.args.bytes.now)) c.schema.ensures.shape c.normal_value_from_reader.ensures.schema)
