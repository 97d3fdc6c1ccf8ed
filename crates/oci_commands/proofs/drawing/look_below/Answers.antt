use Rattle.std.proofs.Common.{ap, map, rules, subst, sym}
use Rattle.serde_json.specs.View.{view}
use Rattle.oci_json.specs.Engines.{ReadsAs}
use Rattle.oci_findings.specs.Outlines.{child_entry}
use Rattle.oci_commands.specs.Trees.{IsFoundIn, IsWithin}
use Rattle.oci_commands.proofs.drawing.look_below.Goals as goal

pub returns-then-is_too_deep-clause-found : goal.returns-then-is_too_deep-clause-found
returns-then-is_too_deep-clause-found c = subst (IsFoundIn c.args.kind c.args.bytes.now) (sym c.of.ensures.mark) c.requires

pub returns-then-is_too_deep-clause-within : goal.returns-then-is_too_deep-clause-within
returns-then-is_too_deep-clause-within c =
    subst (λ m. IsWithin c.args.kind c.args.bytes.now m (map child_entry c.of.result.children.items)) (sym c.of.ensures.mark) (ap (map child_entry) c.of.ensures.children)

pub returns-then-is_too_deep-clause-deep : goal.returns-then-is_too_deep-clause-deep
returns-then-is_too_deep-clause-deep c = λ at. c.of.ensures.children

pub returns-clause-within : goal.returns-clause-within
returns-clause-within c =
    let value = view c.in_ok-value.value in
    let reads : ReadsAs c.args.bytes.now value = search rules in
    (value, reads, c.in_ok-children.ensures)
