use Rattle.std.specs.Prelude.{string_bytes}
use Rattle.oci_findings.specs.Outlines.{row_line}
use Rattle.oci_findings.proofs.Rows.{texts_more}
use Rattle.oci_findings.proofs.outline.push_rows.Goals as goal

pub loop-row-preserved : goal.loop-row-preserved
loop-row-preserved c =
    texts_more row_line _ (string_bytes c.loop-row.text) _ c.deref-row-items.result.now c.loop-row.row-index c.row-item.result c.loop-row-test.true c.row-item.is
    c.in_ok-push_row.ensures c.loop-row.invariant
