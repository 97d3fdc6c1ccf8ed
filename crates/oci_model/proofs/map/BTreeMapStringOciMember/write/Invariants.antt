use Rattle.std.proofs.Common.{◌≡◌, List, ◌++◌, String, Global}
use Rattle.serde_json.specs.View.{members_view}
use Rattle.oci_model.specs.Fits.{Fits, EachEntry}
use Rattle.oci_model.specs.Value.{value, each_entry_value}
use Rattle.oci_model.specs.Writable.{Writable}
use Rattle.oci_model.proofs.Maps.{entries_of}
use Rattle.oci_model.proofs.map.BTreeMapStringOciMember.write.Given as goal

abbrev pub invariant-loop-name : goal.invariant-loop-name
invariant-loop-name g l =
    let s = g.T.OciMember.shape in
    let f = g.T.OciMember.plain in
    (done : List (String Global × g.row.T.Denot)) × (l.self.entries ≡ done ++ l.name-iterator)
    × (members_view l.written.entries ≡ each_entry_value (value s) (entries_of f done))
    × EachEntry (Fits s) (entries_of f done) × EachEntry (Writable s) (entries_of f done)
