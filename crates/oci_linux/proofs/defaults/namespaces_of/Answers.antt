use Rattle.oci_linux.specs.Defaults.{new_namespace}
use Rattle.oci_linux.specs.LinuxNamespace.{linux_namespace_plain}
use Rattle.oci_linux.proofs.Lists.{plains_next}
use Rattle.oci_linux.proofs.defaults.namespaces_of.Goals as goal

pub loop-typ-preserved : goal.loop-typ-preserved
loop-typ-preserved c =
    let next = plains_next linux_namespace_plain new_namespace c.loop-typ.listed.items c.args.types.now c.loop-typ.typ-index _ _ c.loop-typ-test.true c.loop-typ.invariant c.in_ok-namespace_of.ensures.ok in
    rw c.in_ok-push.ensures.items next
