use Rattle.std.proofs.Common.{◌≡◌, None, Some, map, rules}
use Rattle.serde_json.specs.View.{view}
use Rattle.oci_json.specs.Engines.{ReadsAs}
use Rattle.oci_findings.specs.Checks.{IsAsked}
use Rattle.oci_findings.specs.Outlines.{child_entry}
use Rattle.oci_commands.specs.Trees.{content_of}
use Rattle.oci_commands.proofs.Trees.{wrote_alone}
use Rattle.oci_commands.proofs.outline.tree_of_bytes.Goals as goal

pub returns-clause-wrote : goal.returns-clause-wrote
returns-clause-wrote g c = λ done.
    let value = view c.in_ok-value.value in
    let kind = c.in-Some.kind in
    let content = c.in-Some-content_kind.content in
    let reads : ReadsAs c.args.bytes.now value = search rules in
    let found : IsAsked None c.args.file.now value kind = search rules in
    let has : content_of kind ≡ Some content = search rules in
    wrote_alone c.args.file.now c.args.bytes.now c.title.result.now value kind content (map child_entry c.in_ok-children.children.items) c.in_ok-rows.rows.items _ _ reads found has
    c.in_ok-children.ensures c.in_ok-rows.ensures c.in_ok-write_tree.ensures
