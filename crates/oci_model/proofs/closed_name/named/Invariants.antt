-- A text stands in the table exactly if it stands behind what was looked at.
use Rattle.std.proofs.Common.{◌≡◌, drop, map}
use Rattle.oci_base.specs.Names.{is_listed}
use Rattle.oci_model.proofs.closed_name.named.Given as goal

abbrev pub invariant-loop-x : goal.invariant-loop-x
invariant-loop-x g l = is_listed (map g.T.ClosedName.text_of l.all) l.text ≡ is_listed (map g.T.ClosedName.text_of (drop l.x-index l.all)) l.text
