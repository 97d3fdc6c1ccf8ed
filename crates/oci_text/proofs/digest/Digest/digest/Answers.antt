-- Each reading is cut at the first colon.
use Rattle.std.proofs.Common.{◌+◌, length, drop, ap, ◌∙◌, subst}
use Rattle.oci_base.specs.Classes.{until, colon}
use Rattle.oci_text.specs.CutDigests.{IsCutDigest}
use Rattle.oci_text.proofs.CutDigests.{of_encoded, is_some_digest}
use Rattle.oci_text.proofs.digest.Digest.digest.Goals as goal

pub returns-clause-value : goal.returns-clause-value
returns-clause-value c =
    of_encoded c.args.self.now c.range_from.result.now c.self.inside.split (c.self.invariant.split_at ∙ ap (λ t. length (until colon t)) c.self.view_is)
    (c.range_from.ensures.value ∙ ap (drop (c.self.inside.split + 1)) (c.as_str.ensures.value ∙ c.self.view_is))

pub returns-clause-digest : goal.returns-clause-digest
returns-clause-digest c = is_some_digest c.args.self.now (subst IsCutDigest c.self.view_is c.self.invariant.is_digest)
