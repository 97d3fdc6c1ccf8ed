-- A reference whose tag and digest give way to a digest (distribution specification, "Pulling manifests": a manifest is named by its tag or its digest).
use Rattle.std.specs.Prelude.{◌≡◌, ◌⊎◌, ℕ, List, codes, Some, None}
use Rattle.oci_reference.specs.Parts.{Parts}

-- the reference without its tag and with this digest
abbrev pub pinned : Parts → List ℕ → Parts
pinned r digest = record r { tag = None; digest = Some digest }

-- the algorithms whose digests a reference may have
abbrev pub IsSupported : List ℕ → Type 0
IsSupported algorithm = (algorithm ≡ codes "sha256") ⊎ ((algorithm ≡ codes "sha384") ⊎ (algorithm ≡ codes "sha512"))
