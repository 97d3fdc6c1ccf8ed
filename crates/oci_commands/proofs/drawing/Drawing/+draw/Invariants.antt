use Rattle.std.proofs.Common.{◌≡◌, ◌++◌, ◌+◌, ◌*◌, map}
use Rattle.oci_findings.specs.Outlines.{child_entry}
use Rattle.oci_layout.specs.declared.top.TheConstants.{DOCUMENT_LIMIT}
use Rattle.oci_commands.specs.Trees.{AddsTrees, KeepsSaid}
use Rattle.oci_commands.proofs.drawing.Drawing.+draw.Given as goal

abbrev pub decreases-draw_all : goal.decreases-draw_all
decreases-draw_all g l = 2 * l.depth + 1

abbrev pub decreases-draw_one : goal.decreases-draw_one
decreases-draw_one g l = 2 * l.depth

abbrev pub invariant-draw_all-each : goal.invariant-draw_all-each
invariant-draw_all-each g l = record {
  whole : l.fn.children.items ≡ l.yielded ++ l.child-iterator.rest.items;
  said : KeepsSaid DOCUMENT_LIMIT (g.L.Store.steady l.self.layout.now) (g.L.Store.contents l.self.layout.now) l.initial.drawn.rows.items l.drawn.rows.items;
  trees : AddsTrees (g.L.Store.contents l.self.layout.now) l.before (map child_entry l.yielded) l.initial.drawn.rows.items l.drawn.rows.items;
}
