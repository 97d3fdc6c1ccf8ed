use Rattle.std.proofs.Common.{Some, subst}
use Rattle.std.proofs.lemmas.Result.{IfOk-weaker}
use Rattle.oci_commands.specs.Compared.{IsSide}
use Rattle.oci_commands.proofs.Sides.{side_held}
use Rattle.oci_commands.proofs.compare.read_side.Goals as goal

pub returns-in-Ok-clause-side : goal.returns-in-Ok-clause-side
returns-in-Ok-clause-side g c =
    IfOk-weaker c.side_of.result _ _
    (λ side is. side_held c.args.asked c.args.name.now (g.S.Files.holds c.args.store.now c.args.name.now) c.in-Ok.bytes.items side c.in-Ok.ensures.bytes
    (subst (λ b. IsSide c.args.asked c.args.name.now (Some b) side) c.as_slice.ensures.value is))
    c.side_of.ensures
