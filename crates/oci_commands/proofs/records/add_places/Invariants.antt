use Rattle.std.proofs.Common.{◌≡◌, drop}
use Rattle.oci_commands.specs.Tables.{each_place, places_of}
use Rattle.oci_commands.proofs.records.add_places.Given as goal

abbrev pub invariant-loop-member : goal.invariant-loop-member
invariant-loop-member l = each_place l.places.items (places_of (drop l.member-index l.members)) ≡ each_place l.initial.places.items (places_of l.members)
