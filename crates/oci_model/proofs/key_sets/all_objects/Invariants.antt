use Rattle.std.specs.Prelude.{◌↔◌}
use Rattle.serde_json.specs.View.{members_view}
use Rattle.oci_model.specs.Means.{AreObjects}
use Rattle.oci_model.proofs.key_sets.all_objects.Given as goal

abbrev pub invariant-loop-member : goal.invariant-loop-member
invariant-loop-member l = AreObjects (members_view l.members.entries) ↔ AreObjects (members_view l.member-iterator)
