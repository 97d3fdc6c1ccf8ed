use Rattle.std.proofs.Common.{◌≤◌, arith}
use Rattle.oci_json_tape.proofs.Sinks.{kept}
use Rattle.oci_schema.proofs.bytes.scalar.write_unsigned.Goals as goal

pub returns : goal.returns
returns g c = λ h. kept c.in_ok-unsigned.ensures (λ a b wrote. (wrote, omega (arith, c.ranges.integer)))
