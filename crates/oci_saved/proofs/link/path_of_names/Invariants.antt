use Rattle.std.proofs.Common.{◌≡◌, [], drop, string_bytes}
use Rattle.std.specs.List.{fold}
use Rattle.tar_folder.specs.Parts.{behind, texts_of}
use Rattle.oci_saved.proofs.link.path_of_names.Given as goal

abbrev pub invariant-names : goal.invariant-names
invariant-names l = fold behind (string_bytes l.path) (texts_of (drop l.name-index l.names)) ≡ fold behind [] (texts_of l.names)
