use Rattle.std.proofs.Common.{◌++◌, to_z-of_z, ap, ◌∙◌}
use Rattle.json.specs.Tree.{json_tokens}
use Rattle.serde_json.specs.Data.{number}
use Rattle.serde_json.specs.Find.{of_integer}
use Rattle.serde_json.specs.Written.{outline}
use Rattle.oci_json_tape.proofs.Sinks.{kept}
use Rattle.oci_schema.proofs.Written.{signed_held}
use Rattle.oci_schema.proofs.bytes.scalar.write_signed.Goals as goal

pub returns : goal.returns
returns g c = λ h.
    kept c.in_ok-signed.ensures (λ a b wrote. (wrote ∙ ap (λ z. a ++ json_tokens (outline (number (of_integer z)))) (to_z-of_z c.ranges.integer), signed_held c.args.integer c.ranges.integer))
