-- The digits behind "sha256:" are those of a SHA-256, since the whole is a digest.
use Rattle.std.proofs.Common.{◌++◌, ◌∙◌, ap, codes, refl, sym, subst}
use Rattle.std.proofs.lemmas.Result.{IfOk-from_err}
use Rattle.oci_base.specs.Digest.{IsSha, digest_refusal}
use Rattle.oci_base.specs.Refused.{Refuses}
use Rattle.oci_text.specs.CutDigests.{IsCutDigest}
use Rattle.oci_text.proofs.Memory.{at_exit, refuses}
use Rattle.oci_text.proofs.Refusals.{digest_text}
use Rattle.oci_text.proofs.sha256_digest.Sha256Digest.from_str.Goals as goal

pub returns-in_err-text-clause-ok : goal.returns-in_err-text-clause-ok
returns-in_err-text-clause-ok c = IfOk-from_err _ _ c.from_residual.ensures.0

pub returns-in_err-text-clause-sha : goal.returns-in_err-text-clause-sha
returns-in_err-text-clause-sha c = IfOk-from_err _ _ c.from_residual.ensures.0

pub returns-in_err-text-clause-err : goal.returns-in_err-text-clause-err
returns-in_err-text-clause-err c = at_exit _ _ (refuses _) c.from_residual.ensures.1

pub returns-in-Some-clause-err : goal.returns-in-Some-clause-err
returns-in-Some-clause-err c = subst (λ reason. Refuses reason c.refusal.result) (c.in-Some.ensures ∙ ap digest_refusal (c.as_str.ensures.value ∙ c.in_ok-text.ensures.ok)) c.refusal.ensures

pub returns-in_err-from_str-in-None-clause-ok : goal.returns-in_err-from_str-in-None-clause-ok
returns-in_err-from_str-in-None-clause-ok c = IfOk-from_err _ _ c.from_residual-in_err-from_str-in-None.ensures.0

pub returns-in_err-from_str-in-None-clause-sha : goal.returns-in_err-from_str-in-None-clause-sha
returns-in_err-from_str-in-None-clause-sha c = IfOk-from_err _ _ c.from_residual-in_err-from_str-in-None.ensures.0

pub returns-in_err-from_str-in-None-clause-err : goal.returns-in_err-from_str-in-None-clause-err
returns-in_err-from_str-in-None-clause-err c = at_exit _ _ (refuses _) c.from_residual-in_err-from_str-in-None.ensures.1

pub invariant_of-result : goal.invariant_of-result
invariant_of-result c =
    let text : IsCutDigest (codes "sha256:" ++ c.args.digits.now) =
    subst IsCutDigest (c.as_str.ensures.value ∙ c.in_ok-text.ensures.ok) (digest_text c.as_str.result.now (sym c.in-None.ensures)) in
    subst (IsSha 64) (sym c.in_ok-from_str-in-None.ensures.ok) (text.meets_sha.sha256 refl)

pub returns-clause-ok : goal.returns-clause-ok
returns-clause-ok c = c.in_ok-from_str-in-None.ensures.ok

pub returns-clause-sha : goal.returns-clause-sha
returns-clause-sha c =
    let text : IsCutDigest (codes "sha256:" ++ c.args.digits.now) =
    subst IsCutDigest (c.as_str.ensures.value ∙ c.in_ok-text.ensures.ok) (digest_text c.as_str.result.now (sym c.in-None.ensures)) in
    text.meets_sha.sha256 refl
