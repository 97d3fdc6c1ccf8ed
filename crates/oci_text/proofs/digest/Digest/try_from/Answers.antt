-- A text without a fault is a digest.
use Rattle.std.proofs.Common.{string_bytes, Result, Ok, Err, ap, ◌∙◌, sym, subst}
use Rattle.std.specs.Result.{IfOk, IfErr}
use Rattle.oci_base.specs.Digest.{digest_refusal}
use Rattle.oci_base.specs.Refused.{Refuses}
use Rattle.oci_text.specs.CutDigests.{IsCutDigest}
use Rattle.oci_text.proofs.CutDigests.{is_some_digest}
use Rattle.oci_text.proofs.Refusals.{digest_text}
use Rattle.oci_text.proofs.digest.Digest.try_from.Goals as goal

pub sound-requires : goal.sound-requires
sound-requires c = subst IsCutDigest c.as_str.ensures.value (digest_text c.as_str.result.now (sym c.in-None.ensures))

-- what holds, whatever is answered
always : {T E : Type 0} (P : Type 0) (r : Result T E) → P → IfOk r (λ x. P)
always P (Ok x) h = h
always P (Err e) h = tt

pub returns-in-None-clause-digest : goal.returns-in-None-clause-digest
returns-in-None-clause-digest c =
    always _ _ (is_some_digest (string_bytes c.args.text) (subst IsCutDigest c.as_str.ensures.value (digest_text c.as_str.result.now (sym c.in-None.ensures))))

pub returns-in-Some-clause-err : goal.returns-in-Some-clause-err
returns-in-Some-clause-err c = subst (λ reason. Refuses reason c.refusal.result) (c.in-Some.ensures ∙ ap digest_refusal c.as_str.ensures.value) c.refusal.ensures

pub returns-in-None-clause-ok : goal.returns-in-None-clause-ok
returns-in-None-clause-ok c = c.sound.ensures.ok

pub returns-in-None-clause-err : goal.returns-in-None-clause-err
returns-in-None-clause-err c = subst (λ reason. IfErr c.sound.result (Refuses reason)) (c.in-None.ensures ∙ ap digest_refusal c.as_str.ensures.value) c.sound.ensures.err
