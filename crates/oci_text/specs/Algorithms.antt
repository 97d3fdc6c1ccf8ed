-- The algorithms of digests (image specification, "Content Descriptors", "Registered Algorithms").
use Rattle.std.specs.Prelude.{ℕ, List, [], ◌∷◌, codes, map, string_bytes, Option, Some, None}
use Rattle.oci_base.specs.Names.{Name, variant, other, name_text}
use Rattle.oci_text.specs.declared.digest_algorithm.DigestAlgorithm.{DigestAlgorithm}
use Rattle.oci_text.specs.declared.digest_algorithm.DigestAlgorithm.TheVariants.{Sha256, Sha384, Sha512, Other}

-- the variants and their texts
abbrev pub algorithm_name : DigestAlgorithm → Name
algorithm_name Sha256 = variant (codes "sha256")
algorithm_name Sha384 = variant (codes "sha384")
algorithm_name Sha512 = variant (codes "sha512")
algorithm_name (Other text) = other (string_bytes text)

-- the texts that are listed
abbrev pub algorithms : List (List ℕ)
algorithms = map (λ a. name_text (algorithm_name a)) (Sha256 ∷ Sha384 ∷ Sha512 ∷ [])

-- how many digits the algorithm asks for
abbrev pub hexlen : DigestAlgorithm → Option ℕ
hexlen Sha256 = Some 64
hexlen Sha384 = Some 96
hexlen Sha512 = Some 128
hexlen (Other text) = None
