use Rattle.std.proofs.Common.{take}
use Rattle.oci_archive.specs.Listings.{IsListOf}
use Rattle.oci_archive.proofs.list.list_places.Given as goal

abbrev pub invariant-each : goal.invariant-each
invariant-each l = IsListOf (take l.at l.places) l.listed.items
