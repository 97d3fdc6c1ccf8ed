use Rattle.std.proofs.Common.{rules}
use Rattle.serde_json.specs.View.{view}
use Rattle.oci_json.specs.Engines.{ReadsAs}
use Rattle.oci_findings.specs.Checks.{IsAsked}
use Rattle.oci_commands.proofs.Sides.{form_held}
use Rattle.oci_commands.proofs.compare.side_of.Goals as goal

pub returns-in-Ok : goal.returns-in-Ok
returns-in-Ok g c =
    let asked : IsAsked c.args.asked c.args.name.now (view c.in-Value.value) c.in-Value.kind = search rules in
    let reads : ReadsAs c.args.bytes.now (view c.in-Value.value) = search rules in
    form_held c.args.asked c.args.name.now c.in-Value.kind c.args.bytes.now (view c.in-Value.value) c.in-Ok.normal asked reads c.in-Ok.ensures
