use Rattle.std.proofs.Common.{◌≤◌, length, List, ℕ}
use Rattle.serde_json.specs.Data.{Data, object}
use Rattle.serde_json.specs.View.{view, members_view}
use Rattle.oci_schema.specs.Leads.{Have}
use Rattle.oci_diff.specs.Tells.{AddsTold, TellsNewMember}
use Rattle.oci_diff.proofs.Telling.{Left}
use Rattle.oci_diff.specs.Differs.{StandAt, AddsIf}
use Rattle.oci_diff.proofs.Ways.{AreAmong}
use Rattle.oci_diff.proofs.changes.add_new_members.Given as goal

abbrev pub invariant-loop-name : goal.invariant-loop-name
invariant-loop-name l = record {
  so : AddsIf (StandAt (view l.before) (object (members_view l.others.entries)) l.at) l.initial.found.items l.found.items;
  grows : length l.initial.found.items ≤ length l.found.items;
  told : AddsTold (λ list. (name : List ℕ) (b : Data) → Have (members_view l.others.entries) name b → Left (TellsNewMember list l.at (view l.before)) (members_view l.name-iterator) name b) l.initial.found.items l.found.items;
  among : AreAmong (members_view l.name-iterator) (members_view l.others.entries);
}
