-- The text was tested.
use Rattle.std.proofs.Common.{string_bytes, true≢false, ap, sym, ◌∙◌, subst}
use Rattle.std.specs.Prelude.{Some}
use Rattle.serde_json.specs.View.{view}
use Rattle.oci_model.proofs.Readers.{no_text, not_digest}
use Rattle.oci_base.specs.Digest.{IsDigestText}
use Rattle.oci_text.proofs.CutDigests.{is_cut, digest_means}
use Rattle.oci_text.proofs.Memory.{of_answer}
use Rattle.oci_text.proofs.digest.DigestOciMember.read.Goals as goal

pub sound-requires : goal.sound-requires
sound-requires c = is_cut c.as_str.result.now (string_bytes c.in-Some.text) (sym c.as_str.ensures.value) (c.is_digest.ensures.0 c.if-is_digest.true)

pub returns-then-is_digest-clause-ok : goal.returns-then-is_digest-clause-ok
returns-then-is_digest-clause-ok c = digest_means (string_bytes c.in-Some.text) (view c.args.value) c.sound.result c.in-Some.ensures (subst IsDigestText c.as_str.ensures.value (c.is_digest.ensures.0 c.if-is_digest.true)) c.sound.ensures.ok

pub returns-then-is_digest-clause-err : goal.returns-then-is_digest-clause-err
returns-then-is_digest-clause-err c = of_answer _ _ (λ h. absurd h) c.sound.ensures.err

pub returns-then-is_digest-clause-kind : goal.returns-then-is_digest-clause-kind
returns-then-is_digest-clause-kind c = of_answer _ _ tt c.sound.ensures.err

pub returns-else-is_digest-clause-err : goal.returns-else-is_digest-clause-err
returns-else-is_digest-clause-err c = λ _. not_digest c.as_str.result.now (view c.args.value) (ap Some c.as_str.ensures.value ∙ c.in-Some.ensures) (λ h. true≢false (sym (c.is_digest.ensures.1 h) ∙ c.if-is_digest.false))

pub returns-in-None-clause-err : goal.returns-in-None-clause-err
returns-in-None-clause-err c = λ _. no_text (view c.args.value) c.in-None.ensures
