use Rattle.std.proofs.Common.{◌≡◌, ◌++◌, drop}
use Rattle.std.specs.List.{filter}
use Rattle.tar_folder.specs.Marks.{extents}
use Rattle.oci_saved.specs.Entries.{is_refused}
use Rattle.oci_saved.proofs.entry.refused_of.Given as goal

abbrev pub invariant-each : goal.invariant-each
invariant-each l = l.left.items ++ filter (is_refused (extents l.index.places.items)) (drop l.finding-index l.found) ≡ filter (is_refused (extents l.index.places.items)) l.found
