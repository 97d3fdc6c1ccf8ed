use Rattle.serde_json.specs.View.{members_view}
use Rattle.oci_schema.specs.Normal.{AreEmptyObjects}
use Rattle.oci_schema.proofs.kept.are_empty_objects.Given as goal

abbrev pub invariant-loop-member : goal.invariant-loop-member
invariant-loop-member l = AreEmptyObjects (members_view l.member-iterator) → AreEmptyObjects (members_view l.members.entries)
