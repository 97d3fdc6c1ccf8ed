use Rattle.std.proofs.Common.{◌≡◌, ◌++◌, map}
use Rattle.oci_findings.specs.Outlines.{child_entry}
use Rattle.oci_commands.specs.Trees.{AreAlone}
use Rattle.oci_commands.proofs.outline.rows_of.Given as goal

abbrev pub invariant-each : goal.invariant-each
invariant-each l = record {
  whole : l.fn.children.items ≡ l.yielded ++ l.child-iterator.rest.items;
  alone : AreAlone (map child_entry l.yielded) l.rows.items;
}
