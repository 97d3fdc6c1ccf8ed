use Rattle.oci_linux.proofs.Lists.{plains_next}
use Rattle.oci_runtime_records.specs.DefaultMounts.{mount_of_row}
use Rattle.oci_runtime_records.specs.Mount.{mount_plain}
use Rattle.oci_runtime_records.proofs.defaults.mounts_of.Goals as goal

pub loop-row-preserved : goal.loop-row-preserved
loop-row-preserved c =
    let next = plains_next mount_plain mount_of_row c.loop-row.listed.items c.args.rows.now c.loop-row.row-index _ _ c.loop-row-test.true c.loop-row.invariant c.in_ok-of_row.ensures.ok in
    rw c.in_ok-push.ensures.items next
