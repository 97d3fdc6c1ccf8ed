use Rattle.std.proofs.Common.{[]}
use Rattle.serde_json.specs.View.{view}
use Rattle.oci_schemas.specs.Kinds.{shape_of}
use Rattle.oci_schema.specs.Unknown.{unknown}
use Rattle.oci_findings.specs.Checks.{AllListed, HasNamesOnce}
use Rattle.oci_findings.proofs.Counted.{none_in_both}
use Rattle.oci_findings.proofs.Unlisted.{none_of_both}
use Rattle.oci_findings.proofs.examine.lost_findings.Goals as goal

pub returns : goal.returns
returns c =
    let all = unknown (shape_of c.args.kind) [] (view c.args.value.now) in
    none_in_both c.in_ok-unknown.unknown.items c.in_ok-repeated.repeated.items c.in_ok-found.found.items (AllListed c.args.kind (view c.args.value.now)) (HasNamesOnce c.args.bytes.now) c.in_ok-found.ensures
    (none_of_both c.in_ok-unknown.unknown.items all c.in_ok-unknown.ensures) c.in_ok-repeated.ensures
