use Rattle.std.proofs.Common.{◌≡◌, List, ◌++◌, String, Global}
use Rattle.oci_model.proofs.Maps.{entries_of}
use Rattle.oci_model.proofs.map.BTreeMapStringOciMember.copy.Given as goal

abbrev pub invariant-loop-name : goal.invariant-loop-name
invariant-loop-name g l =
    let f = g.T.OciMember.plain in
    (done : List (String Global × g.row.T.Denot)) × (l.self.entries ≡ done ++ l.name-iterator) × (entries_of f l.copies.entries ≡ entries_of f done)
