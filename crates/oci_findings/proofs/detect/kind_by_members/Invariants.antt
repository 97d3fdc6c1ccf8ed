use Rattle.std.proofs.Common.{◌≡◌, take}
use Rattle.std.specs.List.{filter}
use Rattle.serde_json.specs.Data.{Data}
use Rattle.oci_findings.specs.FoundKind.{is_known, all_kinds}
use Rattle.oci_findings.specs.Known.{counted}
use Rattle.oci_findings.proofs.detect.kind_by_members.Given as goal

abbrev pub invariant-loop-kind : goal.invariant-loop-kind
invariant-loop-kind g l = (d : Data) → g.D.Document.holds l.document d → l.known ≡ counted (filter (is_known d) (take l.kind-index all_kinds))
