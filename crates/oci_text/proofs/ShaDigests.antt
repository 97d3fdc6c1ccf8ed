-- SHA-256 digests.
use Rattle.std.proofs.Common.{◌≡◌, ℕ, true, false, List, ◌++◌, refl, ap, arith}
use Rattle.std.specs.Prelude.{codes, bytes_eq}
use Rattle.oci_base.specs.Classes.{is_lower_hex, is_encoded_byte, one}
use Rattle.oci_base.specs.Digest.{IsSha}
use Rattle.oci_text.specs.CutDigests.{IsCutDigest}
use Rattle.oci_base.proofs.Runs.{in_wider}
use Rattle.oci_text.proofs.Refusals.{digest_text, digest_refused}

hex_encoded : (b : ℕ) → is_lower_hex b ≡ true → is_encoded_byte b ≡ true
hex_encoded b h = grind arith

-- 64 digits behind the algorithm's name
pub sha_text : (e : List ℕ) → IsSha 64 e → IsCutDigest (codes "sha256:" ++ e)
sha_text e h = digest_text (codes "sha256:" ++ e) ((digest_refused (codes "sha256:" ++ e)).1 (
  codes "sha256",
  e,
  record {
    spelled = refl;
    is_algorithm = one (codes "sha256") (omega arith, refl);
    is_encoded = (omega (arith, h.0), in_wider is_lower_hex is_encoded_byte hex_encoded e h.1);
    meets_sha = record {
      sha256 = λ _. h;
      sha384 = λ same. let clash : false ≡ true = ap (λ z. bytes_eq z (codes "sha384")) same in cc clash;
      sha512 = λ same. let clash : false ≡ true = ap (λ z. bytes_eq z (codes "sha512")) same in cc clash;
    };
  },
))
