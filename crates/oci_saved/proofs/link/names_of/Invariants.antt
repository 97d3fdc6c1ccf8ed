use Rattle.std.proofs.Common.{◌≡◌, [], drop, Some}
use Rattle.std.specs.List.{fold}
use Rattle.tar_folder.specs.Parts.{texts_of}
use Rattle.oci_saved.specs.Links.{after_part}
use Rattle.oci_saved.proofs.link.names_of.Given as goal

abbrev pub invariant-parts : goal.invariant-parts
invariant-parts l = fold after_part (Some (texts_of l.names.items)) (texts_of (drop l.part-index l.parts)) ≡ fold after_part (Some []) (texts_of l.parts)
