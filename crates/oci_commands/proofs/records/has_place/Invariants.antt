use Rattle.std.proofs.Common.{◌≡◌, drop}
use Rattle.std.specs.Prelude.{nat_eq}
use Rattle.std.specs.List.{list_any}
use Rattle.oci_commands.proofs.records.has_place.Given as goal

abbrev pub invariant-loop-it : goal.invariant-loop-it
invariant-loop-it l = list_any (nat_eq l.place) l.places.items ≡ list_any (nat_eq l.place) (drop l.it-index l.places.items)
