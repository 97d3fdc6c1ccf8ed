-- A reference as a document: an object of its texts, which are not tested when it is read (distribution specification, "Pulling manifests").
use Rattle.std.specs.Prelude.{codes}
use Rattle.oci_model.specs.Shape.{Shape, rows, no_rows, listed, required, optional, text}

-- the members, in the order in which they are looked at
abbrev pub reference : Shape
reference = rows (
    listed (codes "registry") required text (
    listed (codes "mirror_registry") optional text (
    listed (codes "repository") required text (
    listed (codes "tag") optional text (
    listed (codes "digest") optional text
    no_rows)))))
