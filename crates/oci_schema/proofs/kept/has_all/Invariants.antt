use Rattle.std.proofs.Common.{ℕ, drop}
use Rattle.serde_json.specs.View.{members_view}
use Rattle.oci_model.specs.Shape.{Shape}
use Rattle.oci_schema.specs.Normal.{HasAll}
use Rattle.oci_schema.specs.Shapes.{members_in}
use Rattle.oci_schema.proofs.kept.has_all.Given as goal

abbrev pub invariant-loop-member : goal.invariant-loop-member
invariant-loop-member l =
    (f : ℕ → Shape) → HasAll (members_in f (drop l.member-index l.members)) (members_view l.found.entries) → HasAll (members_in f l.members) (members_view l.found.entries)
