use Rattle.std.proofs.Common.{◌≡◌, take, map}
use Rattle.oci_model.specs.Plain.{plains}
use Rattle.oci_model.proofs.list.VecOciMember.copy.Given as goal

abbrev pub invariant-loop-item : goal.invariant-loop-item
invariant-loop-item g l = plains (map g.T.OciMember.plain l.copies.items) ≡ plains (map g.T.OciMember.plain (take l.item-index l.item-items))
