use Rattle.serde_json.specs.View.{view}
use Rattle.oci_findings.specs.Outlines.{child_entry, entry_of}
use Rattle.oci_findings.proofs.Facts.{made_more}
use Rattle.oci_findings.proofs.outline.add_each.Goals as goal

pub each-preserved : goal.each-preserved
each-preserved c =
    made_more child_entry (λ v. entry_of c.args.role (view v)) c.add_child.new.children.items c.each.children.items _ c.deref-item-items.result.now c.each.item-index
    c.item-item.result c.each-test.true c.item-item.is c.in_ok-add_child.ensures c.each.invariant
