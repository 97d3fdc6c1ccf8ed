-- A text without a fault is a digest.
use Rattle.std.proofs.Common.{sym, subst}
use Rattle.oci_base.specs.Refused.{Refuses}
use Rattle.oci_text.specs.CutDigests.{IsCutDigest}
use Rattle.oci_text.proofs.Refusals.{digest_text}
use Rattle.oci_text.proofs.digest.Digest.from_str.Goals as goal

pub sound-requires : goal.sound-requires
sound-requires c = subst IsCutDigest (sym c.in_ok-from_str-in-None.ensures.ok) (digest_text c.args.text.now (sym c.in-None.ensures))

pub returns-in-Some-clause-err : goal.returns-in-Some-clause-err
returns-in-Some-clause-err c = subst (λ reason. Refuses reason c.refusal.result) c.in-Some.ensures c.refusal.ensures
