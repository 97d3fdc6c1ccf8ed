-- Past the end of a table each place is that of a record with no members.
use Rattle.std.proofs.Common.{◌≡◌, ℕ, zero, suc, ◌≤◌, List, [], ◌∷◌, length, refl, arith}
use Rattle.oci_model.specs.Shape as shape
use Rattle.oci_model.specs.Shape.{Shape, no_rows}
use Rattle.oci_schema.specs.Shapes.{shape_at}

pub beyond : (ss : List Shape) (place : ℕ) → length ss ≤ place → shape_at ss place ≡ shape.rows no_rows
beyond [] place above = refl
beyond (s ∷ ss) zero above = absurd (omega arith)
beyond (s ∷ ss) (suc place) above = beyond ss place (omega arith)
