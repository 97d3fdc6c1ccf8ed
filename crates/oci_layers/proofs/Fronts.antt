-- The first bytes of a layer tell its encoding, whatever is behind them.
use Rattle.std.proofs.Common.{◌≡◌, ℕ, ◌≤◌, ◌<◌, List, [], ◌∷◌, ◌++◌, length, Option, Some, None, Result, Ok, Err, IfSome, IfOk, IfErr, refl, sym, ap, ◌∙◌, subst, append-nil, arith}
use Rattle.std.specs.Prelude.{IsSomeAnd}
use Rattle.std.specs.Io.KnownBytes.{prepend_known, IsAtEnd}
use Rattle.std.specs.Fmt.{option_append}
use Rattle.deflate.specs.Bits.{AreBelow}
use Rattle.gzip.specs.Gzip.{IsGzip}
use Rattle.oci_content.specs.Content.{checksum_of}
use Rattle.oci_content.specs.declared.algorithm.Algorithm.{Algorithm}
use Rattle.oci_content.specs.declared.checksum.Checksum.{Checksum}
use Rattle.oci_layers.specs.Encodings.{encoding_at_front, IsUncompressed}
use Rattle.oci_layers.specs.Errors.{IsNotGzip}
use Rattle.oci_layers.specs.declared.encoding.Encoding.{Encoding}
use Rattle.oci_layers.specs.declared.encoding.Encoding.TheVariants as encoding
use Rattle.oci_layers.specs.declared.error.LayerError.{LayerError}

nothing_behind : (front tail : List ℕ) → tail ≡ [] → encoding_at_front (front ++ tail) ≡ encoding_at_front front
nothing_behind front tail none = ap encoding_at_front (ap (λ t. front ++ t) none ∙ append-nil front)

-- six bytes tell it, and fewer do where nothing is behind them
pub tells : (front tail : List ℕ) → length front ≤ 6 → (length front < 6 → tail ≡ []) → encoding_at_front (front ++ tail) ≡ encoding_at_front front
tells [] tail most end = nothing_behind [] tail (end (omega arith))
tells (a ∷ []) tail most end = nothing_behind (a ∷ []) tail (end (omega arith))
tells (a ∷ b ∷ []) tail most end = nothing_behind (a ∷ b ∷ []) tail (end (omega arith))
tells (a ∷ b ∷ c ∷ []) tail most end = nothing_behind (a ∷ b ∷ c ∷ []) tail (end (omega arith))
tells (a ∷ b ∷ c ∷ d ∷ []) tail most end = nothing_behind (a ∷ b ∷ c ∷ d ∷ []) tail (end (omega arith))
tells (a ∷ b ∷ c ∷ d ∷ e ∷ []) tail most end = nothing_behind (a ∷ b ∷ c ∷ d ∷ e ∷ []) tail (end (omega arith))
tells (a ∷ b ∷ c ∷ d ∷ e ∷ f ∷ []) tail most end = refl
tells (a ∷ b ∷ c ∷ d ∷ e ∷ f ∷ g ∷ more) tail most end = absurd (omega arith)

-- what holds of all bytes, by what the first ones tell
pub carried : (front : List ℕ) (rest known : Option (List ℕ)) (P Q : List ℕ → Type 0) → known ≡ option_append (Some front) rest
    → length front ≤ 6 → (length front < 6 → IsAtEnd rest)
    → ((bytes : List ℕ) → encoding_at_front bytes ≡ encoding_at_front front → P bytes → Q bytes) → IfSome known P → IfSome (prepend_known front rest) Q
carried front None known P Q is most end give h = tt
carried front (Some tail) known P Q is most end give h = give (front ++ tail) (tells front tail most end) (subst (λ k. IfSome k P) is h)

pub ok_behind : (front : List ℕ) (rest known : Option (List ℕ)) (e : Encoding) (a : Algorithm) (r : Result Checksum LayerError) → known ≡ option_append (Some front) rest
    → length front ≤ 6 → (length front < 6 → IsAtEnd rest) → Some e ≡ encoding_at_front front
    → IfOk r (λ sum. IfSome known (λ bytes. AreBelow 256 bytes → (text : List ℕ) × IsUncompressed e bytes text × (sum ≡ checksum_of a text)))
    → IfOk r (λ sum. IfSome (prepend_known front rest) (λ bytes. AreBelow 256 bytes
    → IsSomeAnd (encoding_at_front bytes) (λ e. (text : List ℕ) × IsUncompressed e bytes text × (sum ≡ checksum_of a text))))
ok_behind front rest known e a (Err x) is most end told h = tt
ok_behind front rest known e a (Ok sum) is most end told h =
    carried front rest known _ _ is most end (λ bytes same give below.
    subst (λ o. IsSomeAnd o (λ e. (text : List ℕ) × IsUncompressed e bytes text × (sum ≡ checksum_of a text))) (told ∙ sym same) (give below)) h

pub not_gzip_behind : (front : List ℕ) (rest known : Option (List ℕ)) (e : Encoding) (r : Result Checksum LayerError) → known ≡ option_append (Some front) rest
    → length front ≤ 6 → (length front < 6 → IsAtEnd rest) → Some e ≡ encoding_at_front front
    → IfErr r (λ x. IsNotGzip x → (e ≡ encoding.Gzip) × IfSome known (λ bytes. AreBelow 256 bytes → (text : List ℕ) → ¬ IsGzip bytes text))
    → IfErr r (λ x. IsNotGzip x → IfSome (prepend_known front rest) (λ bytes. (encoding_at_front bytes ≡ Some encoding.Gzip) × (AreBelow 256 bytes → (text : List ℕ) → ¬ IsGzip bytes text)))
not_gzip_behind front rest known e (Ok sum) is most end told h = tt
not_gzip_behind front rest known e (Err x) is most end told h = λ n.
    let (gzip, none) = h n in
    carried front rest known _ _ is most end (λ bytes same give. (same ∙ sym told ∙ ap Some gzip, give)) none
