use Rattle.std.proofs.Common.{◌≡◌, drop}
use Rattle.oci_base.specs.Names.{is_listed}
use Rattle.oci_schema.specs.Shapes.{names_of}
use Rattle.oci_schema.proofs.scalar.is_among.Given as goal

abbrev pub invariant-loop-name : goal.invariant-loop-name
invariant-loop-name l = is_listed (names_of l.table) l.text ≡ is_listed (names_of (drop l.name-index l.table)) l.text
