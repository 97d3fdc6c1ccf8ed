use Rattle.std.proofs.Common.{drop, map}
use Rattle.serde_json.specs.Data.{no_members}
use Rattle.serde_json.specs.View.{members_view}
use Rattle.oci_model.specs.Plain.{slots}
use Rattle.oci_model.specs.Value.{with_rows}
use Rattle.oci_schema.specs.Shapes.{default_slot, members_in}
use Rattle.oci_schema.proofs.Filled.{Filled}
use Rattle.oci_schema.proofs.absent.default_members.Given as goal

abbrev pub invariant-loop-i : goal.invariant-loop-i
invariant-loop-i g l =
    Filled (g.T.Records.shape_at l.records) (with_rows (members_in (g.T.Records.shape_at l.records) l.members) (slots (map default_slot l.defaults)) no_members) (drop l.i l.members) (drop l.i l.defaults) (members_view l.made.entries)
