use Rattle.std.proofs.Common.{◌≡◌, None, Some, refl, rules}
use Rattle.serde_json.specs.View.{view}
use Rattle.oci_json.specs.Engines.{ReadsAs}
use Rattle.oci_commands.proofs.FoundKinds.{asked_kind, found_kind}
use Rattle.oci_commands.proofs.same_kind.kind_in.Goals as goal

pub returns-in-Some : goal.returns-in-Some
returns-in-Some c =
    let known : c.args.asked ≡ Some c.in-Some.kind = (let is = c.in-Some.is in cc) in
    asked_kind c.args.asked c.in-Some.kind c.args.name.now c.args.bytes.now known

pub returns-in_ok-value-in-None : goal.returns-in_ok-value-in-None
returns-in_ok-value-in-None c =
    let d = view c.in_ok-value-in-None.value in
    let reads : ReadsAs c.args.bytes.now d = search rules in
    let none : c.args.asked ≡ None = (let is = c.in-None.is in cc) in
    found_kind c.args.asked c.args.name.now c.args.bytes.now d c.kind_of.result none reads (c.kind_of.ensures d refl)
