use Rattle.std.proofs.Common.{◌≡◌, false, rules, subst, sym}
use Rattle.oci_findings.specs.Checks.{HasNamesOnce}
use Rattle.serde_json.specs.View.{view}
use Rattle.oci_commands.specs.Pins.{IsTagged}
use Rattle.oci_commands.proofs.Targets.{is_tagged, none_tagged, several_tagged, twice_tagged}
use Rattle.oci_commands.proofs.pins.by_name_in.Goals as goal

pub returns-in-One : goal.returns-in-One
returns-in-One g c =
    let right : c.in_ok-is_wrong.field-0 ≡ false = search rules in
    let once : HasNamesOnce c.args.bytes.now = search rules in
    subst (λ d. IsTagged c.args.tag.now d c.args.bytes.now) (sym c.in_ok-from_str-in-One.ensures.ok)
    (is_tagged c.args.file.now c.args.tag.now c.in-One.digest.now c.args.bytes.now (view c.in_ok-index.index) (c.in_ok-is_wrong.ensures.right right) c.in_ok-index.ensures.ok once c.in-One.ensures)

pub returns-in-Several : goal.returns-in-Several
returns-in-Several g c = several_tagged c.args.tag.now c.args.bytes.now (view c.in_ok-index.index) c.in_ok-index.ensures.ok c.in-Several.ensures

pub returns : goal.returns
returns g c = none_tagged c.args.tag.now c.args.bytes.now (view c.in_ok-index.index) c.in_ok-index.ensures.ok c.in-Nothing.ensures
