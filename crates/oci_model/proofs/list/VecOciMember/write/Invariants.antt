use Rattle.std.proofs.Common.{◌≡◌, take, map}
use Rattle.serde_json.specs.View.{items_view}
use Rattle.oci_model.specs.Fits.{Fits, Each}
use Rattle.oci_model.specs.Plain.{plains}
use Rattle.oci_model.specs.Value.{value, each_value}
use Rattle.oci_model.specs.Writable.{Writable}
use Rattle.oci_model.proofs.list.VecOciMember.write.Given as goal

abbrev pub invariant-loop-item : goal.invariant-loop-item
invariant-loop-item g l =
    let done = plains (map g.T.OciMember.plain (take l.item-index l.item-items)) in
    record {
      written : items_view l.written.items ≡ each_value (value g.T.OciMember.shape) done;
      fits : Each (Fits g.T.OciMember.shape) done;
      writable : Each (Writable g.T.OciMember.shape) done;
    }
