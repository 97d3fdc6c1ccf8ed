use Rattle.std.proofs.Common.{◌≡◌, true, ap, ◌∙◌, subst}
use Rattle.std.specs.Prelude.{IfSome}
use Rattle.serde_json.specs.Data.{Data}
use Rattle.serde_json.specs.View.{view}
use Rattle.oci_json_tape.specs.Elements.{BeginsWithData}
use Rattle.oci_json_tape.proofs.Sinks.{kept}
use Rattle.oci_schema.specs.Shapes.{schema_shape}
use Rattle.oci_schema.specs.Normalized.{accepts, normalized}
use Rattle.oci_schema.specs.Walks.{WritesTree}
use Rattle.oci_schema.proofs.FieldWalk.{if_both_done}
use Rattle.oci_schema.proofs.bytes.by_value.write_by_value.Goals as goal

pub returns-in-Ok : goal.returns-in-Ok
returns-in-Ok g c =
    let s = schema_shape (g.T.Records.shape_at c.args.records.now) c.args.schema.now in
    let made = c.in-Ok.ensures.ok in
    let wrote = c.write_value.ensures in
    if_both_done c.write_value.result _ _ _ wrote.writes wrote.readable
    (λ w readable. kept w (λ a b added d begins.
    let seen = subst (λ o. IfSome o (λ v. (e : Data) → BeginsWithData c.args.element.now e → view v ≡ e)) c.in-Some.is c.in_ok-value.ensures.value d begins in
    let same = made.1 ∙ ap (normalized s) seen in
    (subst (λ x. accepts s x ≡ true) seen made.0, subst (λ x. WritesTree x a b) same (added, readable))))
