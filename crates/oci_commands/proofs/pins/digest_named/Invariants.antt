use Rattle.serde_json.specs.View.{view}
use Rattle.oci_commands.specs.Pins.{HoldsOf, IsTaggedBelow}
use Rattle.oci_commands.proofs.pins.digest_named.Given as goal

abbrev pub invariant-loop-place : goal.invariant-loop-place
invariant-loop-place l = HoldsOf (IsTaggedBelow (view l.index) l.tag l.place) l.found
