use Rattle.oci_json_tape.proofs.Sinks.{kept}
use Rattle.oci_schema.proofs.bytes.absent.write_null.Goals as goal

pub returns : goal.returns
returns g c = λ h. kept c.in_ok-null.ensures (λ a b wrote. (wrote, tt))
