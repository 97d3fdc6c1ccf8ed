use Rattle.std.proofs.Common.{◌≡◌, take, map, string_bytes}
use Rattle.serde_json.specs.View.{members_view}
use Rattle.oci_model.specs.Value.{sorted, empty_objects}
use Rattle.oci_model.proofs.key_sets.objects_of.Given as goal

abbrev pub invariant-loop-name : goal.invariant-loop-name
invariant-loop-name l = members_view l.members.entries ≡ empty_objects (sorted (map string_bytes (take l.name-index l.name-items)))
