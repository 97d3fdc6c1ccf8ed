-- What was tested so far.
use Rattle.std.proofs.Common.{◌≡◌, ◌&&◌, drop}
use Rattle.std.specs.List.{list_all}
use Rattle.oci_grammars.specs.Classes.{class_of}
use Rattle.oci_grammars.proofs.classes.Class.has_all.Given as goal

abbrev pub invariant-loop-b : goal.invariant-loop-b
invariant-loop-b l = (l.sound && list_all (class_of l.self) (drop l.b-index l.text)) ≡ list_all (class_of l.self) l.text
