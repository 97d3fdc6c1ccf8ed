-- none of the parts before is `..`
use Rattle.std.proofs.Common.{◌≡◌, drop}
use Rattle.std.specs.List.{list_any}
use Rattle.tar_folder.specs.Parts.{texts_of}
use Rattle.tar_folder.specs.Paths.{is_above}
use Rattle.oci_layers.proofs.name.goes_up.Given as goal

abbrev pub invariant-parts : goal.invariant-parts
invariant-parts l = list_any is_above (texts_of (drop l.part-index l.parts)) ≡ list_any is_above (texts_of l.parts)
