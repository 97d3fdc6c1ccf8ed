-- What a hashing sink has taken is what was decoded.
use Rattle.std.proofs.Common.{◌≡◌, ℕ, List, [], ◌∷◌, Option, Some, None, IfSome, refl, sym, ap, ◌∙◌, arith}
use Rattle.oci_content.specs.Content.{checksum_of}
use Rattle.oci_content.specs.Hashing.{Holds}
use Rattle.oci_content.specs.declared.algorithm.Algorithm.{Algorithm}
use Rattle.oci_content.specs.declared.algorithm.Algorithm.TheVariants.{Sha256, Sha384, Sha512}
use Rattle.oci_content.specs.declared.checksum.Checksum.{Checksum}
use Rattle.oci_content.specs.declared.hasher.Hasher.{Hasher}
use Rattle.gzip.specs.Errors.{IsRefused}
use Rattle.gzip.specs.Gzip.{IsGzip}
use Rattle.gzip.specs.declared.error.GzipError.{GzipError}
use Rattle.oci_layers.specs.Encodings.{IsUncompressed}
use Rattle.oci_layers.specs.Errors.{IsNotGzip, Splits}
use Rattle.oci_layers.specs.Hashed.{number_of, HasHashed}
use Rattle.oci_layers.specs.declared.encoding.Encoding.{Encoding}
use Rattle.oci_layers.specs.declared.encoding.Encoding.TheVariants.{Plain, Gzip, Zstd}
use Rattle.oci_layers.specs.declared.error.LayerError.{LayerError}
use Rattle.oci_layers.specs.declared.error.LayerError.TheVariants.{NotGzip, NotDecoded, Io, Memory}

pub one_archive : ((bytes t u : List ℕ) → IsGzip bytes t → IsGzip bytes u → t ≡ u)
    → (encoding : Encoding) (bytes t u : List ℕ) → IsUncompressed encoding bytes t → IsUncompressed encoding bytes u → t ≡ u
one_archive one Plain bytes t u h k = h ∙ sym k
one_archive one Gzip bytes t u h k = one bytes t u h k
one_archive one Zstd bytes t u h k = absurd h

-- what holds of the bytes of a reader, if they are known
pub if_known : (known : Option (List ℕ)) (P : List ℕ → Type 0) → ((bytes : List ℕ) → known ≡ Some bytes → P bytes) → IfSome known P
if_known None P h = tt
if_known (Some bytes) P h = h bytes refl

one_number : (a b : Algorithm) → number_of a ≡ number_of b → a ≡ b
one_number Sha256 Sha256 e = refl
one_number Sha384 Sha384 e = refl
one_number Sha512 Sha512 e = refl
one_number Sha256 Sha384 e = absurd (omega arith)
one_number Sha256 Sha512 e = absurd (omega arith)
one_number Sha384 Sha256 e = absurd (omega arith)
one_number Sha384 Sha512 e = absurd (omega arith)
one_number Sha512 Sha256 e = absurd (omega arith)
one_number Sha512 Sha384 e = absurd (omega arith)

-- a hasher that has taken nothing, behind the number of its algorithm
pub begun : (a : Algorithm) (h : Hasher) → Holds a h [] → HasHashed h (number_of a ∷ [])
begun a h holds = record { algorithm = a; text = []; holds = holds; is = refl }

-- what a hasher makes of a text behind the number of an algorithm is the text's checksum by it
pub ended : (a : Algorithm) (h : Hasher) (sum : Checksum) (text : List ℕ) → HasHashed h (number_of a ∷ text)
    → ((b : Algorithm) (m : List ℕ) → Holds b h m → sum ≡ checksum_of b m) → sum ≡ checksum_of a text
ended a h sum text k made =
    let number : number_of k.algorithm ≡ number_of a = cc k.is in
    let texts : k.text ≡ text = cc k.is in
    made k.algorithm k.text k.holds ∙ ap (λ b. checksum_of b k.text) (one_number k.algorithm a number) ∙ ap (checksum_of a) texts

-- what is no gzip file to a layer is refused by the decoder
pub refused : (g : GzipError) (e : LayerError) → Splits g e → IsNotGzip e → IsRefused g
refused g (NotGzip h) s n = s.1
refused g NotDecoded s n = absurd s
refused g (Io x) s n = absurd n
refused g Memory s n = absurd n
