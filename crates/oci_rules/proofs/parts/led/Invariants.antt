use Rattle.std.proofs.Common.{◌≡◌, drop}
use Rattle.serde_json.specs.View.{view}
use Rattle.oci_rules.specs.Parts.{led}
use Rattle.oci_rules.specs.Tables.{texts_of}
use Rattle.oci_rules.proofs.parts.led.Given as goal

abbrev pub invariant-loop-name : goal.invariant-loop-name
invariant-loop-name l = led (texts_of (drop l.name-index l.way)) (view l.here) ≡ led (texts_of l.way) (view l.value)
