-- the last of the names so far, unless there is one behind them
use Rattle.std.proofs.Common.{◌≡◌, None, drop}
use Rattle.std.specs.List.{filter, last_or}
use Rattle.tar_folder.specs.Parts.{texts_of}
use Rattle.tar_folder.specs.Paths.{is_name}
use Rattle.oci_layers.specs.Names.{text_in}
use Rattle.oci_layers.proofs.name.last_name.Given as goal

abbrev pub invariant-parts : goal.invariant-parts
invariant-parts l = last_or (text_in l.last) (filter is_name (texts_of (drop l.part-index l.parts))) ≡ last_or None (filter is_name (texts_of l.parts))
