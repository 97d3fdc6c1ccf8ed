-- What a digest and a size say of a content (image specification, "Content Descriptors", "Digests" and "Verification").
use Rattle.std.specs.Prelude.{◌≡◌, ◌≢◌, ℕ, ◌<◌, List, ◌∷◌, ◌++◌, length, codes}
use Rattle.hex.specs.Hex.{encode_lower}
use Rattle.sha2.specs.Sha256.{sha256}
use Rattle.sha2.specs.Sha512.{sha384, sha512}
use Rattle.oci_content.specs.declared.algorithm.Algorithm.{Algorithm}
use Rattle.oci_content.specs.declared.algorithm.Algorithm.TheVariants as by
use Rattle.oci_content.specs.declared.checksum.Checksum.{Checksum}
use Rattle.oci_content.specs.declared.checksum.Checksum.TheVariants as made
use Rattle.oci_content.specs.declared.verdict.Verdict.{Verdict}
use Rattle.oci_content.specs.declared.verdict.Verdict.TheVariants.{Same, Shorter, Longer, OtherDigest, Unjudged}

-- the name of an algorithm
abbrev pub algorithm_name : Algorithm → List ℕ
algorithm_name by.Sha256 = codes "sha256"
algorithm_name by.Sha384 = codes "sha384"
algorithm_name by.Sha512 = codes "sha512"

-- the text begins with the name of the algorithm and a colon
abbrev pub IsBy : Algorithm → List ℕ → Type 0
IsBy a text = (encoded : List ℕ) × (text ≡ algorithm_name a ++ 58 ∷ encoded)

-- what the algorithm makes of some bytes (FIPS 180-4)
abbrev pub checksum_of : Algorithm → List ℕ → Checksum
checksum_of by.Sha256 bytes = made.Sha256 (sha256 bytes)
checksum_of by.Sha384 bytes = made.Sha384 (sha384 bytes)
checksum_of by.Sha512 bytes = made.Sha512 (sha512 bytes)

-- the text of a checksum: the algorithm, a colon, and the bytes in lowercase hexadecimal digits
abbrev pub checksum_text : Checksum → List ℕ
checksum_text (made.Sha256 hash) = codes "sha256:" ++ encode_lower hash
checksum_text (made.Sha384 hash) = codes "sha384:" ++ encode_lower hash
checksum_text (made.Sha512 hash) = codes "sha512:" ++ encode_lower hash

-- the digest of some bytes
abbrev pub digest_text : Algorithm → List ℕ → List ℕ
digest_text a bytes = checksum_text (checksum_of a bytes)

-- the text is the digest of the bytes, by one of the algorithms
abbrev pub IsDigestOf : List ℕ → List ℕ → Type 0
IsDigestOf text bytes = (a : Algorithm) × (text ≡ digest_text a bytes)

-- the bytes have this size and this digest
abbrev pub IsContentOf : List ℕ → ℕ → List ℕ → Type 0
IsContentOf digest size bytes = (length bytes ≡ size) × IsDigestOf digest bytes

-- the bytes have this size and, by the algorithm that the digest names, another digest, which is this
pub record IsOther (digest : List ℕ) (bytes : List ℕ) (found : Checksum) : Type 0 where
  pub algorithm : Algorithm
  pub named : IsBy algorithm digest
  pub made : found ≡ checksum_of algorithm bytes
  pub other : digest ≢ checksum_text found

-- what a verdict says of the bytes beside a digest and a size
abbrev pub Tells : List ℕ → ℕ → List ℕ → Verdict → Type 0
Tells digest size bytes Same = IsContentOf digest size bytes
Tells digest size bytes (Shorter found) = (length bytes ≡ found) × (found < size)
Tells digest size bytes Longer = size < length bytes
Tells digest size bytes (OtherDigest found) = (length bytes ≡ size) × IsOther digest bytes found
Tells digest size bytes Unjudged = (length bytes ≡ size) × ((a : Algorithm) → ¬ IsBy a digest)
