use Rattle.std.proofs.Common.{ap, sym, ◌∙◌}
use Rattle.oci_schema.specs.Shapes.{scalar_shape}
use Rattle.oci_schema.proofs.NormalParts.{keys_normal, detail_normal}
use Rattle.oci_schema.proofs.kept.is_normal_scalar.Goals as goal

pub returns-in-Some : goal.returns-in-Some
returns-in-Some c = λ h. keys_normal _ _ _ (ap scalar_shape c.in-Keys.is) c.in-Some.ensures c.are_empty_objects.ensures.ordered (c.are_empty_objects.ensures.empty h)

pub returns-then-not-is_null : goal.returns-then-not-is_null
returns-then-not-is_null c = λ h. detail_normal _ _ (ap scalar_shape c.in-Detail.is) (sym c.is_null.ensures ∙ c.if-not-is_null.true) (c.is_plain.ensures h)
