-- What was seen, and what is left, tell of the whole.
use Rattle.std.proofs.Common.{◌≡◌, ◌&&◌, drop}
use Rattle.std.specs.List.{list_all}
use Rattle.oci_base.specs.Classes.{is_lower_hex}
use Rattle.oci_text.proofs.fault.are_lower_hex.Given as goal

abbrev pub invariant-loop-b : goal.invariant-loop-b
invariant-loop-b l = (l.sound && list_all is_lower_hex (drop l.b-index l.bytes)) ≡ list_all is_lower_hex l.bytes
