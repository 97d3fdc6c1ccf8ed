-- The grammar of digests (image specification, "Content Descriptors", "Digests"), and what a refusal says.
use Rattle.std.specs.Prelude.{◌≡◌, ℕ, ◌==◌, List, [], ◌∷◌, ◌++◌, length, codes, bytes_eq, decimal, Option, Some, None, if◌then◌else◌}
use Rattle.std.specs.Option.{option_or}
use Rattle.std.specs.List.{list_all, slice_split}
use Rattle.oci_base.specs.Classes.{has, until, after, colon, is_lower, is_lower_hex, is_encoded_byte, is_joint, IsIn, IsSomeOf, IsOneOf, IsJoined}

-- components of [a-z0-9], joined by single marks
abbrev pub IsAlgorithm : List ℕ → Type 0
IsAlgorithm text = IsJoined (IsOneOf is_joint) (IsSomeOf is_lower) text

-- a SHA algorithm has this many digits, all of them lowercase
abbrev pub IsSha : ℕ → List ℕ → Type 0
IsSha digits encoded = (length encoded ≡ digits) × IsIn is_lower_hex encoded

-- what the SHA algorithms ask of the encoded part
pub record MeetsSha (algorithm encoded : List ℕ) : Type 0 where
  pub sha256 : algorithm ≡ codes "sha256" → IsSha 64 encoded
  pub sha384 : algorithm ≡ codes "sha384" → IsSha 96 encoded
  pub sha512 : algorithm ≡ codes "sha512" → IsSha 128 encoded

-- algorithm, colon, encoded
pub record IsDigest (text algorithm encoded : List ℕ) : Type 0 where
  pub spelled : text ≡ algorithm ++ colon ∷ encoded
  pub is_algorithm : IsAlgorithm algorithm
  pub is_encoded : IsSomeOf is_encoded_byte encoded
  pub meets_sha : MeetsSha algorithm encoded

-- ---- why a text is no digest: the first rule that it breaks, or none

-- of one component
abbrev pub part_refusal : List ℕ → Option (List ℕ)
part_refusal part =
    if length part == 0 then Some (codes "Empty algorithm component")
    else (if list_all is_lower part then None else Some (codes "Invalid algorithm component: " ++ part))

-- the components from the left
abbrev pub component_refusal : List (List ℕ) → Option (List ℕ)
component_refusal [] = None
component_refusal (part ∷ parts) = option_or (part_refusal part) (component_refusal parts)

abbrev pub sha_refusal : ℕ → List ℕ → Option (List ℕ)
sha_refusal digits encoded =
    if length encoded == digits then (if list_all is_lower_hex encoded then None else Some (codes "Invalid non-hexadecimal character in digest: " ++ encoded))
    else Some (codes "Invalid digest length " ++ (decimal (length encoded) ++ (codes " expected " ++ decimal digits)))

abbrev pub digits_refusal : List ℕ → List ℕ → Option (List ℕ)
digits_refusal algorithm encoded =
    if bytes_eq algorithm (codes "sha256") then sha_refusal 64 encoded
    else (if bytes_eq algorithm (codes "sha384") then sha_refusal 96 encoded
    else (if bytes_eq algorithm (codes "sha512") then sha_refusal 128 encoded else None))

abbrev pub encoded_refusal : List ℕ → List ℕ → Option (List ℕ)
encoded_refusal algorithm encoded =
    if length encoded == 0 then Some (codes "Empty algorithm value")
    else (if list_all is_encoded_byte encoded then digits_refusal algorithm encoded else Some (codes "Invalid encoded value " ++ encoded))

abbrev pub digest_refusal : List ℕ → Option (List ℕ)
digest_refusal text =
    if has colon text then option_or (component_refusal (slice_split is_joint (until colon text))) (encoded_refusal (until colon text) (after colon text))
    else Some (codes "missing ':' in digest")

-- a digest of some algorithm
abbrev pub IsDigestText : List ℕ → Type 0
IsDigestText text = (algorithm encoded : List ℕ) × IsDigest text algorithm encoded
