use Rattle.std.proofs.Common.{◌≡◌, drop}
use Rattle.std.specs.List.{list_any}
use Rattle.serde_json.specs.Data.{Data}
use Rattle.oci_schema.specs.Shapes.{names_of}
use Rattle.oci_findings.specs.FoundKind.{has_member}
use Rattle.oci_findings.proofs.detect.has_any.Given as goal

abbrev pub invariant-loop-name : goal.invariant-loop-name
invariant-loop-name g l = (d : Data) → g.D.Document.holds l.document d → list_any (has_member d) (names_of l.names) ≡ list_any (has_member d) (names_of (drop l.name-index l.names))
