use Rattle.std.proofs.Common.{arith}
use Rattle.serde_json.specs.View.{view}
use Rattle.oci_layout.specs.declared.member.OtherMember.TheVariants.{Manifests}
use Rattle.oci_layout.proofs.Once.{first_at}
use Rattle.oci_layout.proofs.member.first_of.Goals as goal

pub returns-then-is_in-clause-some : goal.returns-then-is_in-clause-some
returns-then-is_in-clause-some c =
    first_at c.args.members.now (view c.args.value.now) c.each.place Manifests (omega arith) c.each.invariant (c.is_in.ensures.0 c.if-is_in.true)
