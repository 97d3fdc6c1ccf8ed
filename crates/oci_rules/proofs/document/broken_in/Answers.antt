use Rattle.std.proofs.Common.{map}
use Rattle.serde_json.specs.View.{view}
use Rattle.oci_rules.specs.Tables.{rule_of, platform_of}
use Rattle.oci_rules.proofs.Documents.{in_equal}
use Rattle.oci_rules.proofs.document.broken_in.Goals as goal

pub returns-clause-listed : goal.returns-clause-listed
returns-clause-listed g c =
    in_equal (map rule_of c.args.rules.now) (platform_of c.args.platform) c.in_ok-found.found.items (view c.in_ok-value.value) _ c.in_ok-value.ensures.ok c.in_ok-found.ensures.listed
