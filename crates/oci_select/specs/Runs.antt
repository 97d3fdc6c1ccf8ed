-- The platforms that run on a platform, best first.
use Rattle.std.specs.Prelude.{ℕ, List, [], ◌∷◌, ◌++◌, codes, bytes_eq, map, if◌then◌else◌}
use Rattle.oci_select.specs.Normal.{Names, named}

-- variants, each before those that run on it too: the levels of x86-64, of which the baseline has no name, and the versions of ARM
unfoldable pub amd64_variants : List (List ℕ)
amd64_variants = codes "v4" ∷ codes "v3" ∷ codes "v2" ∷ [] ∷ []

unfoldable pub arm_variants : List (List ℕ)
arm_variants = codes "v9" ∷ codes "v8" ∷ codes "v7" ∷ codes "v6" ∷ codes "v5" ∷ []

-- the version of ARM whose 32-bit programs run on a variant of arm64; other variants have the same name there
unfoldable pub arm_of_arm64 : List (List ℕ × List ℕ)
arm_of_arm64 = ([], codes "v8") ∷ (codes "5", codes "v5") ∷ (codes "6", codes "v6") ∷ (codes "7", codes "v7") ∷ []

-- what follows a text in a list; nothing if the list does not have it
abbrev pub behind : List (List ℕ) → List ℕ → List (List ℕ)
behind [] text = []
behind (x ∷ xs) text = if bytes_eq text x then xs else behind xs text

-- platforms of one system and architecture
abbrev pub of_variants : List ℕ → List ℕ → List (List ℕ) → List Names
of_variants os architecture variants = map (λ v. record { os = os; architecture = architecture; variant = v }) variants

-- on amd64: the variants behind, then 386
abbrev pub on_amd64 : List ℕ → List ℕ → List Names
on_amd64 os variant = of_variants os (codes "amd64") (behind amd64_variants variant) ++ of_variants os (codes "386") ([] ∷ [])

-- an arm of this variant, and those that run on it too
abbrev pub arms : List ℕ → List ℕ → List Names
arms os variant = of_variants os (codes "arm") (variant ∷ behind arm_variants variant)

-- what runs on a platform beside its own, best first
abbrev pub others_on : Names → List Names
others_on n =
    if bytes_eq n.architecture (codes "amd64") then on_amd64 n.os n.variant
    else (if bytes_eq n.architecture (codes "arm64") then arms n.os (named arm_of_arm64 n.variant)
    else (if bytes_eq n.architecture (codes "arm") then of_variants n.os (codes "arm") (behind arm_variants n.variant) else []))

abbrev pub runs_on : Names → List Names
runs_on n = n ∷ others_on n
