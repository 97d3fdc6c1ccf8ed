use Rattle.std.proofs.Common.{None, Some, subst}
use Rattle.std.proofs.lemmas.Result.{IfOk-weaker}
use Rattle.oci_findings.specs.Checks.{HasNoKind}
use Rattle.oci_commands.specs.Kinds.{IsKindLine}
use Rattle.oci_commands.proofs.Held.{held, line_held}
use Rattle.oci_commands.proofs.kinds.kind_of_file.Goals as goal

pub returns-in-Ok-clause-right : goal.returns-in-Ok-clause-right
returns-in-Ok-clause-right g c =
    IfOk-weaker c.kind_of_bytes.result _ _
    (λ o found right. let (line, is, wrote) = found right in (
      line,
      line_held c.args.style c.args.name.now (g.S.Files.holds c.args.store.now c.args.name.now) c.in-Ok.bytes.items line c.in-Ok.ensures.bytes
          (subst (λ b. IsKindLine c.args.style (Some b) c.args.name.now line) c.as_slice.ensures.value is),
      wrote,
    ))
    c.kind_of_bytes.ensures.right

pub returns-in-Ok-clause-wrong : goal.returns-in-Ok-clause-wrong
returns-in-Ok-clause-wrong g c =
    IfOk-weaker c.kind_of_bytes.result _ _
    (λ o found wrong. held (HasNoKind None c.args.name.now) (g.S.Files.holds c.args.store.now c.args.name.now) c.in-Ok.bytes.items c.in-Ok.ensures.bytes
    (subst (HasNoKind None c.args.name.now) c.as_slice.ensures.value (found wrong)))
    c.kind_of_bytes.ensures.wrong
