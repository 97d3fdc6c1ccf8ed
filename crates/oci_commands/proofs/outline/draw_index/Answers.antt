use Rattle.std.proofs.Common.{map, rules}
use Rattle.serde_json.specs.View.{view}
use Rattle.oci_json.specs.Engines.{ReadsAs}
use Rattle.oci_findings.specs.Outlines.{child_entry}
use Rattle.oci_commands.proofs.Trees.{read_trees}
use Rattle.oci_commands.proofs.outline.draw_index.Goals as goal

pub returns-clause-trees : goal.returns-clause-trees
returns-clause-trees g c =
    let value = view c.in_ok-value.value in
    let reads : ReadsAs c.args.bytes.now value = search rules in
    read_trees (g.L.Store.contents c.args.layout.now) c.args.bytes.now value (map child_entry c.in_ok-children.children.items) c.in_ok-rows.rows.items reads
    c.in_ok-children.ensures c.in_ok-rows.ensures.trees
