use Rattle.oci_json_tape.proofs.Sinks.{kept}
use Rattle.oci_schema.proofs.bytes.scalar.write_boolean.Goals as goal

pub returns : goal.returns
returns g c = λ h. kept c.in_ok-boolean.ensures (λ a b wrote. (wrote, tt))
