use Rattle.std.proofs.lemmas.Result.{IfOk-weaker}
use Rattle.oci_commands.proofs.texts.is_digest.Goals as goal

pub returns-clause-right : goal.returns-clause-right
returns-clause-right g c = IfOk-weaker c.perform.result _ _ (λ b found yes. let (algorithm, encoded, is, wrote) = found yes in (algorithm, encoded, is)) c.perform.ensures.right

pub returns-clause-wrong : goal.returns-clause-wrong
returns-clause-wrong g c = c.perform.ensures.wrong
