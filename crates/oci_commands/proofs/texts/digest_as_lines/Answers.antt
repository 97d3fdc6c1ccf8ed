use Rattle.std.proofs.Common.{refl}
use Rattle.std.proofs.lemmas.Result.{IfOk-weaker}
use Rattle.oci_doc_run.specs.Outputs.{digest_lines}
use Rattle.oci_commands.proofs.texts.digest_as_lines.Goals as goal

pub returns-clause-right : goal.returns-clause-right
returns-clause-right g c =
    IfOk-weaker c.perform.result _ _ (λ b done yes. let (algorithm, encoded, is, wrote) = done yes in (digest_lines algorithm encoded, (algorithm, encoded, is, refl), wrote)) c.perform.ensures.right

pub returns-clause-wrong : goal.returns-clause-wrong
returns-clause-wrong g c = c.perform.ensures.wrong
