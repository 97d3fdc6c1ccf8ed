use Rattle.std.proofs.Common.{◌≡◌}
use Rattle.serde_json.specs.View.{members_view}
use Rattle.oci_model.specs.Means.{is_object}
use Rattle.oci_schema.specs.Allows.{each_member_allowed}
use Rattle.oci_schema.proofs.scalar.are_objects.Given as goal

abbrev pub invariant-loop-member : goal.invariant-loop-member
invariant-loop-member l = each_member_allowed is_object (members_view l.members.entries) ≡ each_member_allowed is_object (members_view l.member-iterator)
