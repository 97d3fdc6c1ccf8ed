use Rattle.oci_schema.specs.Places.{pointer}
use Rattle.oci_findings.proofs.Listed.{member_added}
use Rattle.oci_findings.proofs.left_out.add_inner.Goals as goal

pub each_key-preserved : goal.each_key-preserved
each_key-preserved c =
    member_added (pointer c.args.at.now) c.in-Some-next_member.name.now c.args.found.now.items c.each_key.found.items c.add_all.new.found.items c.each_key.invariant c.in_ok-add_all.ensures
