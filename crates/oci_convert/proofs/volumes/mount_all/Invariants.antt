use Rattle.oci_convert.proofs.Mounts.{Completes}
use Rattle.oci_convert.proofs.volumes.mount_all.Given as goal

abbrev pub invariant-loop-path : goal.invariant-loop-path
invariant-loop-path l = Completes l.volume l.path-items l.path-index l.initial.mounts.items l.mounts.items
