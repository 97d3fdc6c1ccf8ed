use Rattle.std.proofs.Common.{◌≡◌, Some, None, subst}
use Rattle.std.specs.Prelude.{MatchOption}
use Rattle.serde_json.specs.Data.{Data}
use Rattle.serde_json.specs.Read.{read}
use Rattle.oci_json_tape.specs.Elements.{BeginsWithData}
use Rattle.oci_json_tape.proofs.Sinks.{kept}
use Rattle.oci_schema.proofs.FieldWalk.{if_done}
use Rattle.oci_schema.proofs.bytes.lane.write_text.Goals as goal

pub returns-in-Some : goal.returns-in-Some
returns-in-Some g c =
    let text = c.args.text.now in
    let m = subst (λ o. MatchOption o (read text ≡ None) (λ ts. (d : Data) × (read text ≡ Some d) × BeginsWithData ts d)) c.in-Some.is c.in-Ok.ensures.ok in
    if_done c.write_tape.result _ _ c.write_tape.ensures (λ w. kept w (λ a b wrote. let n = wrote m.0 m.2 in (m.0, m.1, n.0, n.1)))
