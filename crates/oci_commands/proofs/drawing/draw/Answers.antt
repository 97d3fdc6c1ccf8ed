use Rattle.oci_findings.specs.Outlines.{child_entry}
use Rattle.std.proofs.Common.{map}
use Rattle.oci_layout.specs.declared.top.TheConstants.{DOCUMENT_LIMIT}
use Rattle.oci_commands.proofs.Trees.{said_from_none, trees_from_none}
use Rattle.oci_commands.proofs.drawing.draw.Goals as goal

pub returns-clause-said : goal.returns-clause-said
returns-clause-said g c =
    said_from_none DOCUMENT_LIMIT (g.L.Store.steady c.args.layout.now) (g.L.Store.contents c.args.layout.now) _ c.draw_all.new.drawn.rows.items c.new.ensures.items
    c.in_ok-draw_all.ensures.said

pub returns-clause-trees : goal.returns-clause-trees
returns-clause-trees g c =
    trees_from_none (g.L.Store.contents c.args.layout.now) (map child_entry c.args.children.items) _ c.draw_all.new.drawn.rows.items c.new.ensures.items
    c.in_ok-draw_all.ensures.trees
