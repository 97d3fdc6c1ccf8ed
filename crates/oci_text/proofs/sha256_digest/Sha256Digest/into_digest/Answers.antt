-- 64 digits behind `sha256:` are a digest.
use Rattle.std.proofs.Common.{◌≡◌, ◌++◌, codes, string_bytes, sym, ◌∙◌, ap, subst}
use Rattle.oci_text.specs.CutDigests.{IsCutDigest}
use Rattle.oci_text.proofs.ShaDigests.{sha_text}
use Rattle.oci_text.proofs.sha256_digest.Sha256Digest.into_digest.Goals as goal

pub sound-requires : goal.sound-requires
sound-requires c =
    let made : string_bytes c.in_ok-format.field-0 ≡ codes "sha256:" ++ string_bytes c.self.inside.digits = c.in_ok-format.ensures.ok ∙ ap (λ z. codes "sha256:" ++ z) c.as_str-digits.ensures.value in
    subst IsCutDigest (sym made) (sha_text (string_bytes c.self.inside.digits) c.self.invariant)
