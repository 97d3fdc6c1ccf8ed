use Rattle.std.proofs.Common.{◌≡◌, Some, subst}
use Rattle.serde_json.specs.Read.{read}
use Rattle.oci_json_tape.proofs.Sinks.{kept}
use Rattle.oci_schema.proofs.FieldWalk.{if_done}
use Rattle.oci_schema.proofs.bytes.lane.write_document.Goals as goal

pub returns-in-Ok : goal.returns-in-Ok
returns-in-Ok g c =
    let u = c.in-Ok.ensures.cases in
    if_done c.write_text.result _ _ c.write_text.ensures (λ w. kept w (λ a b wrote. (wrote.0, (u.1, subst (λ t. read t ≡ Some wrote.0) u.0 wrote.1), wrote.2, wrote.3)))
