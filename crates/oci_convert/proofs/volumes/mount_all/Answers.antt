use Rattle.std.proofs.Common.{string_bytes, ap, ◌∙◌}
use Rattle.oci_convert.proofs.Mounts.{completes_more, completes_all}
use Rattle.oci_convert.proofs.volumes.mount_all.Goals as goal

pub loop-path-preserved : goal.loop-path-preserved
loop-path-preserved c =
    completes_more c.args.volume.now c.deref-path-items.result.now c.loop-path.path-index c.path-item.result c.as_str.result.now c.args.mounts.now.items c.loop-path.mounts.items c.mount_volume.new.mounts.items
    c.loop-path-test.true (c.as_str.ensures.value ∙ ap string_bytes c.path-item.is) c.loop-path.invariant c.in_ok-mount_volume.ensures

pub returns : goal.returns
returns c = completes_all c.args.volume.now c.deref-path-items.result.now c.args.paths.now.items c.loop-path.path-index c.args.mounts.now.items c.loop-path.mounts.items c.loop-path-test.false c.deref-path-items.ensures.value c.loop-path.invariant
