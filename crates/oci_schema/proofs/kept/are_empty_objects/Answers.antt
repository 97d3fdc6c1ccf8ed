use Rattle.oci_schema.proofs.NormalParts.{in_order}
use Rattle.oci_schema.proofs.kept.are_empty_objects.Goals as goal

pub returns-then-not-is_empty_object-clause-ordered : goal.returns-then-not-is_empty_object-clause-ordered
returns-then-not-is_empty_object-clause-ordered c = in_order _ c.iter-member-items.ensures.ordered

pub returns-clause-ordered : goal.returns-clause-ordered
returns-clause-ordered c = in_order _ c.iter-member-items.ensures.ordered
