use Rattle.std.proofs.Common.{◌≡◌, ◌++◌, map, take}
use Rattle.serde_json.specs.View.{view}
use Rattle.oci_findings.specs.Outlines.{child_entry, entry_of}
use Rattle.oci_findings.proofs.outline.add_each.Given as goal

abbrev pub invariant-each : goal.invariant-each
invariant-each l = map child_entry l.children.items ≡ map child_entry l.initial.children.items ++ map (λ v. entry_of l.role (view v)) (take l.item-index l.item-items)
