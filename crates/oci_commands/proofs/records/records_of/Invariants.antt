use Rattle.std.proofs.Common.{◌≡◌, ◌≤◌, ◌++◌, [], length, map, take}
use Rattle.std.specs.List.{AllZip, flat_map}
use Rattle.oci_commands.specs.Tables.{IsRecordAt, each_place, places_in, places_of}
use Rattle.oci_commands.proofs.records.records_of.Given as goal

abbrev pub invariant-loop-index : goal.invariant-loop-index
invariant-loop-index g l = record {
  reached : l.places.items ≡ each_place [] (places_in l.schema ++ flat_map (λ r. places_of r.members.now) (map (λ r. r.now) l.records.items));
  each : AllZip (IsRecordAt (g.T.Records.shape_at l.table)) (take l.index l.places.items) (map (λ r. r.now) l.records.items);
  within : l.index ≤ length l.places.items;
}
