use Rattle.oci_schema.specs.Places.{pointer}
use Rattle.oci_findings.proofs.Listed.{member_added}
use Rattle.oci_findings.proofs.left_out.add_all.Goals as goal

pub each_inner-preserved : goal.each_inner-preserved
each_inner-preserved c =
    member_added (pointer c.args.at.now) c.in-Some-next_member.name.now c.args.found.now.items c.each_inner.found.items c.push.new.found.items c.each_inner.invariant c.in_ok-push.ensures
