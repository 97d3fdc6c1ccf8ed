-- A worked record: an operating system whose version has a second name (image specification, "Image Index", `os.version`).
use Rattle.std.specs.Prelude.{[], ◌∷◌, Some, codes}
use Rattle.serde_json.specs.Data.{Data, null, string, object, no_members, member}
use Rattle.oci_model.specs.Shape as shape
use Rattle.oci_model.specs.Shape.{Shape, rows, row, listed, no_rows, required, optional}
use Rattle.oci_model.specs.Plain as plain
use Rattle.oci_model.specs.Plain.{Plain, filled, slots}

-- its shape
abbrev pub system : Shape
system = rows (listed (codes "os") required shape.text (row (codes "os.version") (Some (codes "os_version")) optional shape.text no_rows))

-- its content
abbrev pub windows : Plain
windows = plain.document (slots (filled (plain.text (codes "windows")) ∷ filled (plain.text (codes "10.0")) ∷ []))

-- with the member's name
abbrev pub named : Data
named = object (member (codes "os") (string (codes "windows")) (member (codes "os.version") (string (codes "10.0")) no_members))

-- with its second name
abbrev pub second_named : Data
second_named = object (member (codes "os") (string (codes "windows")) (member (codes "os_version") (string (codes "10.0")) no_members))

-- with both names, of which one holds null
abbrev pub twice_named : Data
twice_named = object (member (codes "os") (string (codes "windows")) (member (codes "os.version") (string (codes "10.0")) (member (codes "os_version") null no_members)))
